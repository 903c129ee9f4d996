-- Scripts that are made from a number.
use Rattle.std.specs.Prelude.{ℕ, zero, suc, ◌+◌, ◌-◌, ◌*◌, ◌/◌, ◌%◌, ◌^◌, nat_lt, List, [], ◌∷◌, ◌++◌, length, take, codes, decimal, if◌then◌else◌}
use Rattle.hex.specs.Hex.{encode_lower}
use Rattle.actor_script.specs.Text.{hexadecimal}

-- What is drawn from a state, which is a number below 2^64, and the state behind the draws.
abbrev pub Drawn : Type 0 → Type 0
Drawn A = ℕ → A × ℕ

-- Goes on with what was drawn, from the state behind it.
infixl 10 ◌>>=◌
abbrev pub ◌>>=◌ : {A B : Type 0} → Drawn A → (A → Drawn B) → Drawn B
draw >>= f = λ state. let (x, behind) = draw state in f x behind

-- this, with no draw more
abbrev pub drawn : {A : Type 0} → A → Drawn A
drawn x = λ state. (x, state)

-- A number below the bound: the upper 31 bits of the next state, modulo the bound.
unfoldable pub draw_below : ℕ → Drawn ℕ
draw_below bound state =
    let next = (6364136223846793005 * state + 1442695040888963407) % 2 ^ 64 in
    (next / 2 ^ 33 % bound, next)

-- a number from 1 to `most`
abbrev pub draw_up_to : ℕ → Drawn ℕ
draw_up_to most = do
  n ← draw_below most
  drawn (n + 1)

-- Of the four mappings, 0 and 1 are of actor 1, and 2 and 3 of actor 2, at 100000 and 200000 each.
-- This is the actor and the address of a byte of a page of a mapping.
abbrev pub place_text : ℕ → ℕ → ℕ → List ℕ
place_text mapping page byte =
    codes "a" ++ decimal (mapping / 2 + 1) ++ codes " "
    ++ hexadecimal (0x100000 * (mapping % 2 + 1) + 4096 * page + byte)

unfoldable pub store_line : Drawn (List ℕ)
store_line = do
  mapping ← draw_below 4
  page ← draw_below 64
  byte ← draw_below 4096
  value ← draw_below 256
  drawn (codes "store " ++ place_text mapping page byte ++ codes " " ++ encode_lower (value ∷ []))

unfoldable pub load_line : Drawn (List ℕ)
load_line = do
  mapping ← draw_below 4
  page ← draw_below 64
  byte ← draw_below 4096
  drawn (codes "load " ++ place_text mapping page byte ++ codes " 1")

-- A copy or a move of up to 16 pages to another cache: the next of the four, or one further on.
unfoldable pub span_line : List ℕ → Drawn (List ℕ)
span_line verb = do
  from ← draw_up_to 4
  further ← draw_below 3
  pages ← draw_up_to 16
  from_page ← draw_below (65 - pages)
  to_page ← draw_below (65 - pages)
  drawn (verb ++ codes " c" ++ decimal from ++ codes " " ++ decimal from_page
      ++ codes " c" ++ decimal ((from + further) % 4 + 1) ++ codes " " ++ decimal to_page
      ++ codes " " ++ decimal pages)

unfoldable pub pageout_line : Drawn (List ℕ)
pageout_line = do
  count ← draw_up_to 8
  drawn (codes "pageout " ++ decimal count)

-- Of 16 lines 7 are stores, 5 loads, 2 copies, one is a move and one a pageout.
abbrev pub line_of : ℕ → Drawn (List ℕ)
line_of kind =
    if nat_lt kind 7 then store_line
    else if nat_lt kind 12 then load_line
    else if nat_lt kind 14 then span_line (codes "copy")
    else if nat_lt kind 15 then span_line (codes "move")
    else pageout_line

unfoldable pub drawn_line : Drawn (List ℕ)
drawn_line = do
  kind ← draw_below 16
  line_of kind

-- so many lines, drawn one after another
unfoldable pub drawn_lines : ℕ → ℕ → List (List ℕ)
drawn_lines state zero = []
drawn_lines state (suc count) =
    let (line, behind) = drawn_line state in
    line ∷ drawn_lines behind count

-- two actors, and two caches of 64 pages in each of them
unfoldable pub opening : List (List ℕ)
opening =
    codes "actor" ∷ codes "actor"
    ∷ codes "temp 64" ∷ codes "temp 64" ∷ codes "temp 64" ∷ codes "temp 64"
    ∷ codes "map a1 c1 0 64 100000 rw" ∷ codes "map a1 c2 0 64 200000 rw"
    ∷ codes "map a2 c3 0 64 100000 rw" ∷ codes "map a2 c4 0 64 200000 rw" ∷ []

-- Where a generator stands: at the opening lines that are left, and behind them at a state.
pub record Position : Type 0 where
  pub left : List (List ℕ)
  pub state : ℕ

-- so many lines from there on
unfoldable pub lines_from : Position → ℕ → List (List ℕ)
lines_from at count = take count at.left ++ drawn_lines at.state (count - length at.left)

-- where the generator of a number begins
abbrev pub beginning : ℕ → Position
beginning number = record { left = opening; state = number }

-- The script of so many lines that a number makes.
abbrev pub generated : ℕ → ℕ → List (List ℕ)
generated number count = lines_from (beginning number) count
