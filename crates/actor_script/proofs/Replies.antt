-- The text of an answer, in the parts in which it is written.
use Rattle.std.proofs.Common.{◌≡◌, ◌++◌, ℕ, List, Some, sym, ap, ◌∙◌, append_assoc}
use Rattle.std.specs.Prelude.{codes, decimal, Ok, Err}
use Rattle.std.specs.List.{flat_map}
use Rattle.vm_ids.specs.declared.chain.ChainItem.{ChainItem}
use Rattle.vm_ids.specs.declared.reply.Reply.TheVariants as replies
use Rattle.vm_model.specs.Answering.{Answer}
use Rattle.actor_script.specs.Text.{answer_text, item_text, text_of}
use Rattle.actor_script.specs.Writing.{answer_front, chain_in}

-- a chain
pub long_answer : (a : Answer) (items : List ChainItem) → chain_in a ≡ Some items → answer_text a ≡ answer_front a ++ (flat_map item_text items ++ codes "*")
long_answer (Ok replies.Done) items e = absurd (cc e)
long_answer (Ok (replies.Actor n)) items e = absurd (cc e)
long_answer (Ok (replies.Cache n)) items e = absurd (cc e)
long_answer (Ok (replies.Region n)) items e = absurd (cc e)
long_answer (Ok (replies.Bytes b)) items e = absurd (cc e)
long_answer (Ok (replies.Status status)) items e = absurd (cc e)
long_answer (Ok (replies.Chain all)) items e = let same : all ≡ items = cc e in ap (λ (xs : List ChainItem). codes "chain" ++ (flat_map item_text xs ++ codes "*")) same
long_answer (Ok (replies.Stat counts)) items e = absurd (cc e)
long_answer (Ok (replies.Process process)) items e = absurd (cc e)
long_answer (Ok (replies.Port port)) items e = absurd (cc e)
long_answer (Err trouble) items e = absurd (cc e)

pub long_line : (number : ℕ) (a : Answer) (items : List ChainItem) → chain_in a ≡ Some items → ((decimal number ++ codes " ") ++ answer_front a) ++ (flat_map item_text items ++ codes "*\n") ≡ text_of number a
long_line number a items e =
    let head : List ℕ = decimal number ++ codes " " in
    let nodes : List ℕ = flat_map item_text items in
    append_assoc head (answer_front a) (nodes ++ codes "*\n")
    ∙ ap (λ (x : List ℕ). head ++ (answer_front a ++ x)) (sym (append_assoc nodes (codes "*") (codes "\n")))
    ∙ ap (λ (x : List ℕ). head ++ x) (sym (append_assoc (answer_front a) (nodes ++ codes "*") (codes "\n")))
    ∙ sym (append_assoc head (answer_front a ++ (nodes ++ codes "*")) (codes "\n"))
    ∙ ap (λ (x : List ℕ). (head ++ x) ++ codes "\n") (sym (long_answer a items e))
