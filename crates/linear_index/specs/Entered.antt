-- What a contract sees of an index, and how that is read off the cells.
use Rattle.std.specs.Prelude.{ℕ, suc, refl, List, [], ◌∷◌, Option, Some, None}
use Rattle.std.specs.Ordering.{nat_cmp}
use Rattle.std.specs.FinMap.{FinMap}
use Rattle.std.specs.FinMap as map
use Rattle.std.specs.Coded.{Coded, code_by, coded×, coded_ℕ}
use Rattle.linear_index.specs.declared.cell.Cell.{Cell}
use Rattle.linear_index.specs.Chains.{key_in}

-- the place at which each key is entered, and for how many places there is room
pub record Entered : Type 0 where
  pub places : FinMap nat_cmp ℕ
  pub room : ℕ

-- it is stored as the pair of its fields
abbrev pub entered_code : Coded Entered
entered_code =
    code_by (FinMap nat_cmp ℕ × ℕ) (coded× (map.code coded_ℕ coded_ℕ) coded_ℕ)
    (λ e. (e.places, e.room)) (λ p. record { places = p.0; room = p.1 }) (λ _. refl)

-- the map with this key at a place, if there is one
abbrev pub with_key : FinMap nat_cmp ℕ → Option ℕ → ℕ → FinMap nat_cmp ℕ
with_key m None place = m
with_key m (Some key) place = map.insert m key place

-- the place of each key that is entered in cells, the first of which is that of a place
unfoldable pub placed : ℕ → List Cell → FinMap nat_cmp ℕ
placed place [] = map.empty
placed place (c ∷ cs) = with_key (placed (suc place) cs) (key_in c) place
