-- What an exec may raise, and what is told of a mapper then.
use Rattle.std.proofs.Common.{◌≡◌, ℕ, ◌+◌, ◌^◌, ◌≤◌, false, cond, List, Option, Some, subst, arith}
use Rattle.std.specs.Prelude.{is_some}
use Rattle.std.specs.FinMap.{get}
use Rattle.std.proofs.lemmas.Bool.Decides.{nat_tests}
use Rattle.interface_callers.proofs.Words.{Actor, Held, Page, Segments, segments_of}
use Rattle.mix_process.specs.Answering.{is_too_large}
use Rattle.mix_process.specs.Loaded.{load_budget}
use Rattle.mix_process.specs.Starting.{HoldsIn, open_budget, start_budget}

abbrev pub alive_one : Option Actor → ℕ
alive_one a = cond (is_some a) 1 0

pub fit_sizes : (text data_pages stack : ℕ) → is_too_large text data_pages stack ≡ false → (text ≤ 1024) × (data_pages ≤ 65536) × (stack ≤ 1024)
fit_sizes text data_pages stack e = (grind (arith, nat_tests), grind (arith, nat_tests), grind (arith, nat_tests))

-- what the parts of an exec may raise leaves room for the rest
pub made_sum : (a b c d : ℕ) → a ≤ 2 ^ 61 → b ≤ a + open_budget → c ≤ b + start_budget → d ≤ c + load_budget → d ≤ 2 ^ 61 + 2 ^ 30
made_sum a b c d f g h i = omega (arith, f, g, h, i)

-- What is told of a mapper
pub told_holds : (told : Option Held) (h : Segments) (seg : ℕ) (pages : List Page) → segments_of told ≡ Some h → HoldsIn (segments_of told) seg (Some pages) → get h.pages seg ≡ Some pages
told_holds told h seg pages e holds = subst (λ (o : Option Segments). HoldsIn o seg (Some pages)) e holds
