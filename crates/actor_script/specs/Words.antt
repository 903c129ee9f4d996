-- The words of a line.
use Rattle.std.specs.Prelude.{◌==◌, ℕ, List}
use Rattle.std.specs.List.{slice_split}

-- The words of a line are what stands between its spaces. So two spaces side by side have an empty
-- word between them, and so has a space at either end; no form has an empty word.
unfoldable pub words_of : List ℕ → List (List ℕ)
words_of line = slice_split (λ b. b == 32) line
