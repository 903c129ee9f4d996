-- The lines of a script, and what is read there.
use Rattle.std.specs.Prelude.{◌≡◌, ◌≢◌, ◌==◌, All, ℕ, List, [], ◌∷◌, ◌++◌, map, take}
use Rattle.std.specs.List.{slice_split}

-- A script has at most this many bytes.
abbrev pub most_bytes : ℕ
most_bytes = 67108864

-- the parts before the last one
abbrev pub all_but_last : List (List ℕ) → List (List ℕ)
all_but_last [] = []
all_but_last (part ∷ []) = []
all_but_last (part ∷ next ∷ parts) = part ∷ all_but_last (next ∷ parts)

-- the last part
abbrev pub last_part : List (List ℕ) → List ℕ
last_part [] = []
last_part (part ∷ []) = part
last_part (part ∷ next ∷ parts) = last_part (next ∷ parts)

-- No line feed is among these bytes.
abbrev pub HasNoFeed : List ℕ → Type 0
HasNoFeed bytes = All (λ b. b ≢ 10) bytes

-- What stands between the line feeds of some bytes.
abbrev pub parts_of : List ℕ → List (List ℕ)
parts_of bytes = slice_split (λ b. b == 10) bytes

-- The lines that a line feed ends.
unfoldable pub ended_lines_of : List ℕ → List (List ℕ)
ended_lines_of bytes = all_but_last (parts_of bytes)

-- What stands behind the last line feed.
unfoldable pub unended_of : List ℕ → List ℕ
unended_of bytes = last_part (parts_of bytes)

-- the one line that these bytes are, or none where there are no bytes
abbrev pub unless_empty : List ℕ → List (List ℕ)
unless_empty [] = []
unless_empty (b ∷ bs) = (b ∷ bs) ∷ []

-- The lines of a script: a line feed ends a line, and what stands behind the last one is a line
-- unless it is empty.
unfoldable pub lines_of : List ℕ → List (List ℕ)
lines_of bytes = ended_lines_of bytes ++ unless_empty (unended_of bytes)

-- the lines of a script as they are read
abbrev pub reads_of : {Read : Type 0} → (List ℕ → Read) → List ℕ → List Read
reads_of read script = map read (lines_of script)

-- those of them that a line feed ends
abbrev pub ended_reads_of : {Read : Type 0} → (List ℕ → Read) → List ℕ → List Read
ended_reads_of read script = map read (ended_lines_of script)

-- A list begins with this one.
pub record IsFront {A : Type 0} (front whole : List A) : Type 0 where
  pub back : List A
  pub parts : whole ≡ front ++ back

-- The first 257 bytes of a line: enough to tell that it has more than 256.
abbrev pub front_of_line : List ℕ → List ℕ
front_of_line line = take 257 line
