-- Attempts leave what torn writes leave, so the retry law of blocks is theirs. Assumes nothing.
use Rattle.std.proofs.Common.{◌≡◌, ℕ, ◌≤◌, Bool, true, false, nat_le, nat_lt, List, [], ◌∷◌, length, take, refl, ap, ◌∙◌}
use Rattle.std.proofs.lemmas.List.{take_all}
use Rattle.std.proofs.lemmas.Bool.{and_parts, cond_both, cond-true, leb-true}
use Rattle.byte_rows.specs.Bytes.{Bytes}
use Rattle.flash.specs.Blocks.{landed, torn_tries}
use Rattle.flash.specs.Rules.{Idempotent, OnBytes}
use Rattle.flash.proofs.Blocks.{retried}
use Rattle.flash.proofs.Rules.{replacing_idempotent, replacing_on_bytes}
use Rattle.bank.specs.declared.space.Space.{Space}
use Rattle.bank.specs.declared.space.Space.TheVariants.{Flash, Eeprom}
use Rattle.bank.specs.Channels.{Channel, Sound}
use Rattle.bank.specs.Effects.{memory, programmed, reached, rule_of, spent, with_memory, with_power, written}
use Rattle.attempts.specs.Attempts.{Retry, attempts, roused}

-- ---- what a change of power or memory leaves

-- what a memory holds, and the rule by which it lands
abbrev held : Space → Channel → List ℕ × (ℕ → ℕ → ℕ)
held space c = (memory space c, rule_of space c)

held_power : (space : Space) (n : ℕ) (b : Bool) (c : Channel) → held space (with_power n b c) ≡ held space c
held_power Flash n b c = refl
held_power Eeprom n b c = refl

held_set : (space : Space) (os : List ℕ) (c : Channel) → held space (with_memory space os c) ≡ (os, rule_of space c)
held_set Flash os c = refl
held_set Eeprom os c = refl

held_roused : (space : Space) (units : ℕ) (c : Channel) → held space (roused units c) ≡ held space c
held_roused space units c =
    let asleep = with_power units false c in
    cond_both (nat_lt 0 units) (with_power units true asleep) asleep (λ d. held space d ≡ held space c)
    (λ _. held_power space units true asleep ∙ held_power space units false c)
    (λ _. held_power space units false c)

-- what a write leaves that reaches its range
abbrev whole : Space → ℕ → List ℕ → Channel → Channel
whole space start vs c = spent (length vs) (programmed (rule_of space c) space start vs c)

held_whole : (space : Space) (start : ℕ) (vs : List ℕ) (c : Channel) →
    held space (whole space start vs c) ≡ (landed (rule_of space c) start (take c.supply vs) (memory space c), rule_of space c)
held_whole space start vs c =
    let os = landed (rule_of space c) start (take c.supply vs) (memory space c) in
    held_power space _ _ (with_memory space os c) ∙ held_set space os c

-- ---- attempts are torn tries

-- d is what torn tries of the block leave of c
abbrev Torn : Space → ℕ → List ℕ → Channel → Channel → Type 0
Torn space start vs c d =
    (ks : List ℕ) × (held space d ≡ (torn_tries (rule_of space c) start vs ks (memory space c), rule_of space c))

one_more : (space : Space) (start : ℕ) (vs : List ℕ) (c d : Channel) → Torn space start vs c d → Torn space start vs c (written space start vs d)
one_more space start vs c d t =
    cond_both (reached space start (length vs) d) (whole space start vs d) d (Torn space start vs c)
    (λ _. (d.supply ∷ t.0, held_whole space start vs d ∙ ap (λ h. (landed h.1 start (take d.supply vs) h.0, h.1)) t.1))
    (λ _. t)

roused_torn : (space : Space) (start : ℕ) (vs : List ℕ) (c d : Channel) (units : ℕ) → Torn space start vs c d → Torn space start vs c (roused units d)
roused_torn space start vs c d units t = (t.0, held_roused space units d ∙ t.1)

torn : (space : Space) (start : ℕ) (vs before : List ℕ) (c : Channel) → Torn space start vs c (attempts space start vs before c)
torn space start vs [] c = ([], refl)
torn space start vs (units ∷ before) c =
    let d = attempts space start vs before c in
    one_more space start vs c (roused units d) (roused_torn space start vs c d units (torn space start vs before c))

-- ---- the law

rule_on_bytes : (space : Space) (c : Channel) → Sound c → OnBytes (rule_of space c)
rule_on_bytes Flash c s = s.onbytes
rule_on_bytes Eeprom c s = replacing_on_bytes

rule_idempotent : (space : Space) (c : Channel) → Sound c → Idempotent (rule_of space c)
rule_idempotent Flash c s = s.idempotent
rule_idempotent Eeprom c s = replacing_idempotent

memory_bytes : (space : Space) (c : Channel) → Sound c → Bytes (memory space c)
memory_bytes Flash c s = s.flash
memory_bytes Eeprom c s = s.eeprom

pub retry : (space : Space) (start : ℕ) (vs : List ℕ) → Bytes vs → Retry space start vs
retry space start vs bytes units before c sound answered =
    let d = roused units (attempts space start vs before c) in
    let f = rule_of space c in
    let parts = and_parts (reached space start (length vs) d) (nat_le (length vs) d.supply) answered in
    let enough : length vs ≤ d.supply = leb-true (length vs) d.supply parts.1 in
    let t = roused_torn space start vs c (attempts space start vs before c) units (torn space start vs before c) in
    ap (memory space) (cond-true (reached space start (length vs) d) (whole space start vs d) d parts.0)
    ∙ ap (λ h. h.0) (held_whole space start vs d)
    ∙ ap (λ ws. landed (rule_of space d) start ws (memory space d)) (take_all d.supply vs enough)
    ∙ ap (λ h. landed h.1 start vs h.0) t.1
    ∙ retried f (rule_on_bytes space c sound) (rule_idempotent space c sound) start vs t.0 (memory space c) bytes (memory_bytes space c sound)
