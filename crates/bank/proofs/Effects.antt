-- No effect alters the facts of a channel. Assumes nothing.
use Rattle.std.proofs.Common.{◌≡◌, ℕ, true, List, length, refl}
use Rattle.std.proofs.lemmas.Bool.{cond_both}
use Rattle.flash.specs.Blocks.{blank}
use Rattle.flash.specs.Rules.{replacing}
use Rattle.bank.specs.declared.space.Space.{Space}
use Rattle.bank.specs.declared.space.Space.TheVariants.{Flash, Eeprom}
use Rattle.bank.specs.Channels.{Channel}
use Rattle.bank.specs.Effects.{entered, erased, powered, programmed, reached, rule_of, spent, with_memory, with_power, written}

pub entered_facts : (c : Channel) → (entered c).facts ≡ c.facts
entered_facts c = cond_both (powered c) (with_power c.supply true c) c (λ d. d.facts ≡ c.facts) (λ _. refl) (λ _. refl)

memory_facts : (space : Space) (os : List ℕ) (c : Channel) → (with_memory space os c).facts ≡ c.facts
memory_facts Flash os c = refl
memory_facts Eeprom os c = refl

pub written_facts : (space : Space) (start : ℕ) (vs : List ℕ) (c : Channel) → (written space start vs c).facts ≡ c.facts
written_facts space start vs c =
    cond_both (reached space start (length vs) c) (spent (length vs) (programmed (rule_of space c) space start vs c)) c
    (λ d. d.facts ≡ c.facts) (λ _. memory_facts space _ c) (λ _. refl)

pub erased_facts : (start count : ℕ) (c : Channel) → (erased start count c).facts ≡ c.facts
erased_facts start count c =
    cond_both (reached Flash start count c) (spent count (programmed replacing Flash start (blank count) c)) c
    (λ d. d.facts ≡ c.facts) (λ _. refl) (λ _. refl)
