-- Every frame is lawful. Assumes nothing.
use Rattle.std.proofs.Common.{◌≡◌, ℕ, ◌+◌, ◌<◌, ◌≤◌, Bool, true, false, cond, eqb, List, [], ◌∷◌, ◌++◌, map, length, Some, None, Ok, Err, Option, Result, refl, ap, ◌∙◌, inl, inr, arith}
use Rattle.std.proofs.lemmas.Bool.{cond_both, eqb-true, ltb-true}
use Rattle.std.proofs.lemmas.List.{length-map}
use Rattle.std.specs.Option.{option_map}
use Rattle.bank.specs.declared.mode.Mode.{Mode}
use Rattle.bank.specs.declared.mode.Mode.TheVariants.{SiC2, SiLBLB, AtmBLB, AtmSK}
use Rattle.bank.specs.declared.space.Space.TheVariants.{Flash}
use Rattle.bank.specs.Channels.{Channel, alter, ask}
use Rattle.bank.specs.Effects.{entered, erased, powered, program_answered, put_to_sleep, reached, written}
use Rattle.bank.specs.Facts.{TargetFacts}
use Rattle.bank.specs.Modes.{mode_number}
use Rattle.bank.proofs.Channels.{ask_kept, ask_other, at_map, length-alter}
use Rattle.bank.proofs.Effects.{entered_facts, erased_facts, written_facts}
use Rattle.commands.proofs.Codes.{Coded, made_coded}
use Rattle.commands.specs.Commands.{made_by}
use Rattle.commands.specs.declared.command.Command.{Command}
use Rattle.commands.specs.declared.command.Command.TheVariants.{Exit, SetMode, Reset, InitFlash, EraseAll, ErasePage, Read, Write}
use Rattle.wire.specs.Codes.{ack_code}
use Rattle.wire.specs.Reading.{FrameRead}
use Rattle.wire.specs.declared.ack.Ack.{Ack}
use Rattle.wire.specs.declared.ack.Ack.TheVariants as ack
use Rattle.session.specs.declared.session.Session.{Session}
use Rattle.session.specs.Doing.{doing, exited, facts_at, initialised, is_sic2, reset, start_of, wiped}
use Rattle.session.specs.Laws.{Fitting, Lawful, refuses}
use Rattle.session.specs.Outcomes.{Outcome, answered_by, bytes_asked, nothing, refused}
use Rattle.session.specs.RuleTable.{channel_there, checks_of, doing_if, fields_of_frame, rule_table, some_and}
use Rattle.session.specs.Sessions.{connecting, in_mode, moved_to, selecting, start}
use Rattle.session.proofs.Judging.{judged_both}

-- the ACK byte of an answer
abbrev pub code_of : Result (List ℕ) Ack → ℕ
code_of (Ok param) = ack_code ack.Ok
code_of (Err a) = ack_code a

abbrev pub After : ℕ → Session → List Channel → Outcome → Type 0
After k s cs o = Lawful k (code_of o.answer) s cs o.session o.channels

-- what is done answers 00 or 0F
acts : (came : Bool) (param : List ℕ) → refuses (code_of (answered_by came param)) ≡ false
acts true param = refl
acts false param = refl

-- ---- steps from session and channels to those after them

-- only the session alters
moving : (k : ℕ) (a : Result (List ℕ) Ack) (s s' : Session) (cs : List Channel) → (refuses (code_of a) ≡ true → s' ≡ s) →
    (Fitting s cs → Fitting s' cs) → After k s cs (record { answer = a; session = s'; channels = cs })
moving k a s s' cs same fits = record { refused = λ e. (same e, refl); fits = fits; others = λ i _. inl refl }

unaltered : (k : ℕ) (a : Result (List ℕ) Ack) (s : Session) (cs : List Channel) → After k s cs (record { answer = a; session = s; channels = cs })
unaltered k a s cs = moving k a s s cs (λ _. refl) (λ f. f)

-- the channel that is selected afterwards alters too
altering : (k : ℕ) (came : Bool) (param : List ℕ) (h : Channel → Channel) (s s' : Session) (cs : List Channel) →
    (Fitting s cs → Fitting s' (alter h cs s'.channel)) →
    After k s cs (record { answer = answered_by came param; session = s'; channels = alter h cs s'.channel })
altering k came param h s s' cs fits = record {
  refused = λ e. cc (acts came param);
  fits = fits;
  others = λ i n. inl (ask_other None Some h cs s'.channel i n);
}

-- ---- sessions that fit

-- a session that is not connected only has to have its channel in the bank
apart : (i : ℕ) (m : Mode) (cursor : ℕ) (cs : List Channel) → i < length cs → Fitting (record { channel = i; mode = m; cursor = cursor; connected = false }) cs
apart i m cursor cs l = record { inside = l; same_mode = λ e. cc }

apart_altered : (h : Channel → Channel) (i : ℕ) (s : Session) (cs : List Channel) → i < length cs → Fitting (selecting i s) (alter h cs i)
apart_altered h i s cs l = apart i s.mode s.cursor (alter h cs i) (omega (arith, length-alter h cs i))

-- a session at its start fits every bank
pub start_fits : (cs : List Channel) → 1 ≤ length cs → Fitting start cs
start_fits cs some = apart 0 SiC2 0 cs (omega arith)

-- what keeps the facts of all channels keeps their modes
mode_kept : (h : Channel → Channel) → ((c : Channel) → (h c).facts ≡ c.facts) → (cs : List Channel) (i : ℕ) →
    option_map (λ t. t.mode) (facts_at (alter h cs i) i) ≡ option_map (λ t. t.mode) (facts_at cs i)
mode_kept h keeps cs i = ap (option_map (λ t. t.mode)) (ask_kept None (λ c. Some c.facts) h (λ c. ap Some (keeps c)) cs i i)

-- so the session still fits, wherever the cursor goes
kept : (h : Channel → Channel) → ((c : Channel) → (h c).facts ≡ c.facts) → (s : Session) (cs : List Channel) (cursor : ℕ) → Fitting s cs →
    Fitting (moved_to cursor s) (alter h cs s.channel)
kept h keeps s cs cursor f =
    record { inside = omega (arith, length-alter h cs s.channel, f.inside); same_mode = λ e. mode_kept h keeps cs s.channel ∙ f.same_mode e }

mode_from_number : (a b : Mode) → mode_number a ≡ mode_number b → a ≡ b
mode_from_number SiC2 SiC2 e = refl
mode_from_number SiLBLB SiLBLB e = refl
mode_from_number AtmBLB AtmBLB e = refl
mode_from_number AtmSK AtmSK e = refl
mode_from_number _ _ e = absurd (omega arith)

-- ---- the commands

exited_lawful : (k : ℕ) (s : Session) (cs : List Channel) → k ≡ 0x34 → After k s cs (exited s cs)
exited_lawful k s cs e =
    cond_both (is_sic2 s.mode) (map put_to_sleep cs) cs (λ ds. After k s cs (record { answer = Ok nothing; session = start; channels = ds }))
    (λ _. record {
      refused = λ h. cc;
      fits = λ f. start_fits (map put_to_sleep cs) (omega (arith, length-map cs put_to_sleep, f.inside));
      others = λ i _. inr (e, at_map put_to_sleep cs i);
    })
    (λ _. moving k (Ok nothing) s start cs (λ h. cc) (λ f. start_fits cs (omega (arith, f.inside))))

reset_lawful : (k i : ℕ) (s : Session) (cs : List Channel) → i < length cs → After k s cs (reset i s cs)
reset_lawful k i s cs l =
    altering k (ask false powered cs i) (i ∷ []) put_to_sleep s (selecting i s) cs (λ _. apart_altered put_to_sleep i s cs l)

-- 37 that does not connect, for another mode or for want of a target
selected_lawful : (k i : ℕ) (s : Session) (cs : List Channel) → i < length cs → After k s cs (refused ack.GeneralError (selecting i s) cs)
selected_lawful k i s cs l = moving k (Err ack.GeneralError) s (selecting i s) cs (λ h. cc) (λ _. apart i s.mode s.cursor cs l)

-- 37 that reaches enter
entered_lawful : (k i : ℕ) (came : Bool) (t : TargetFacts) (s : Session) (cs : List Channel) → i < length cs → facts_at cs i ≡ Some t →
    t.mode ≡ s.mode → After k s cs (record {
      answer = answered_by came (t.identity ++ mode_number t.mode ∷ []);
      session = cond came (connecting (selecting i s)) (selecting i s);
      channels = alter entered cs i;
    })
entered_lawful k i true t s cs l facts same =
    altering k true (t.identity ++ mode_number t.mode ∷ []) entered s (connecting (selecting i s)) cs (λ f. record {
      inside = omega (arith, length-alter entered cs i);
      same_mode = λ _. mode_kept entered entered_facts cs i ∙ ap (option_map (λ t. t.mode)) facts ∙ ap Some same;
    })
entered_lawful k i false t s cs l facts same = altering k false [] entered s (selecting i s) cs (λ _. apart_altered entered i s cs l)

initialised_lawful : (k i : ℕ) (target : Option TargetFacts) (s : Session) (cs : List Channel) → i < length cs → facts_at cs i ≡ target →
    After k s cs (initialised i target s cs)
initialised_lawful k i None s cs l facts = selected_lawful k i s cs l
initialised_lawful k i (Some t) s cs l facts =
    cond_both (eqb (mode_number t.mode) (mode_number s.mode)) _ (refused ack.GeneralError (selecting i s) cs) (After k s cs)
    (λ e. entered_lawful k i (ask false powered cs i) t s cs l facts (mode_from_number t.mode s.mode (eqb-true _ _ e)))
    (λ _. selected_lawful k i s cs l)

wiped_lawful : (k from count : ℕ) (reply : List ℕ) (s : Session) (cs : List Channel) → After k s cs (wiped from count reply s cs)
wiped_lawful k from count reply s cs =
    altering k (ask false (program_answered Flash from count) cs s.channel) reply (erased from count) s s cs
    (kept (erased from count) (erased_facts from count) s cs s.cursor)

fetched_lawful : (k : ℕ) (came : Bool) (cursor : ℕ) (param : List ℕ) (s : Session) (cs : List Channel) →
    After k s cs (record { answer = answered_by came param; session = cond came (moved_to cursor s) s; channels = cs })
fetched_lawful k true cursor param s cs =
    moving k (Ok param) s (moved_to cursor s) cs (λ h. cc) (λ f. record { inside = f.inside; same_mode = f.same_mode })
fetched_lawful k false cursor param s cs = unaltered k (Err ack.GeneralError) s cs

stored_lawful : (k : ℕ) (came : Bool) (cursor : ℕ) (h : Channel → Channel) → ((c : Channel) → (h c).facts ≡ c.facts) → (s : Session) (cs : List Channel) →
    After k s cs (record { answer = answered_by came nothing; session = cond came (moved_to cursor s) s; channels = alter h cs s.channel })
stored_lawful k true cursor h keeps s cs = altering k true nothing h s (moved_to cursor s) cs (kept h keeps s cs cursor)
stored_lawful k false cursor h keeps s cs = altering k false nothing h s s cs (kept h keeps s cs s.cursor)

doing_lawful : (k : ℕ) (command : Option Command) (address : ℕ) (param : List ℕ) (s : Session) (cs : List Channel) → Coded k command →
    some_and (λ c. channel_there c (length cs)) command ≡ true → After k s cs (doing_if command address param s cs)
doing_lawful k None address param s cs coded there = unaltered k (Err ack.InvalidParam) s cs
doing_lawful k (Some Exit) address param s cs coded there = exited_lawful k s cs (eqb-true k 0x34 coded)
doing_lawful k (Some (SetMode m)) address param s cs coded there =
    moving k (Ok (mode_number m ∷ [])) s (in_mode m s) cs (λ h. cc) (λ f. apart s.channel m s.cursor cs f.inside)
doing_lawful k (Some (Reset i)) address param s cs coded there = reset_lawful k i s cs (ltb-true i (length cs) there)
doing_lawful k (Some (InitFlash i)) address param s cs coded there =
    initialised_lawful k i (facts_at cs i) s cs (ltb-true i (length cs) there) refl
doing_lawful k (Some EraseAll) address param s cs coded there = wiped_lawful k 0 _ nothing s cs
doing_lawful k (Some (ErasePage page)) address param s cs coded there = wiped_lawful k _ _ (page ∷ []) s cs
doing_lawful k (Some (Read space len)) address param s cs coded there =
    fetched_lawful k (ask false (reached space (start_of address s) (bytes_asked len)) cs s.channel) (start_of address s + bytes_asked len) _ s cs
doing_lawful k (Some (Write space)) address param s cs coded there =
    stored_lawful k (ask false (program_answered space (start_of address s) (length param)) cs s.channel) (start_of address s + length param)
    (written space (start_of address s) param) (written_facts space (start_of address s) param) s cs
doing_lawful k (Some command) address param s cs coded there = unaltered k (doing command address param s cs).answer s cs

pub lawful : (read : FrameRead) (s : Session) (cs : List Channel) → After (fields_of_frame read).command s cs (rule_table read s cs)
lawful read s cs =
    let f = fields_of_frame read in
    let k = f.command in
    judged_both (After k s cs) (checks_of read s cs) (doing_if (made_by k f.param) f.address f.param s cs) s cs (λ a. unaltered k (Err a) s cs)
    (λ all. doing_lawful k (made_by k f.param) f.address f.param s cs (made_coded k f.param) all.1.1.1.0)
