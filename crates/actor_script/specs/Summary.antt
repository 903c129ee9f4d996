-- The summary of many answers.
use Rattle.std.specs.Prelude.{◌≡◌, ◌%◌, ◌^◌, ℕ, Bool, true, false, List, [], ◌∷◌, ◌++◌, length, sum, sum_by, count_by, codes, decimal, Ok, Err}
use Rattle.vm_ids.specs.declared.reply.Counts.{Counts}
use Rattle.vm_ids.specs.declared.reply.Reply.TheVariants as replies
use Rattle.vm_model.specs.Answering.{Answer}
use Rattle.actor_script.specs.Text.{ok_text}
use Rattle.actor_script.specs.declared.tally.Tally.{Tally}

-- the text of the answer begins with `ok`
abbrev pub is_ok : Answer → Bool
is_ok (Ok (replies.Chain items)) = false
is_ok (Ok (replies.Stat counts)) = false
is_ok (Ok reply) = true
is_ok (Err trouble) = false

-- the sum of the bytes that the answer gives
abbrev pub loaded_in : Answer → ℕ
loaded_in (Ok (replies.Bytes bytes)) = sum bytes
loaded_in answer = 0

-- How many answers there are, how many of them begin with `ok`, and the sum of all bytes loaded,
-- modulo 2^64.
abbrev pub tally_of : List Answer → Tally
tally_of answers = record {
  lines = length answers;
  ok = count_by is_ok answers;
  loaded = sum_by loaded_in answers % 2 ^ 64;
}

-- From one tally to the next there is this answer more.
abbrev pub Tallies : Tally → Answer → Tally → Type 0
Tallies before answer after = (answers : List Answer) → before ≡ tally_of answers
    → after ≡ tally_of (answers ++ answer ∷ [])

-- The summary of so many answers has four lines, the last of which has the counts of pages.
abbrev pub summary_of : Tally → Counts → List ℕ
summary_of tally counts =
    codes "lines " ++ decimal tally.lines ++ codes "\nok " ++ decimal tally.ok
    ++ codes "\nloaded " ++ decimal tally.loaded ++ codes "\n" ++ ok_text (replies.Stat counts)
    ++ codes "\n"
