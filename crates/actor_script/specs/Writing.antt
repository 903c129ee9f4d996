-- What a sink was given.
use Rattle.std.specs.Prelude.{◌≡◌, ℕ, List, ◌++◌, codes, Option, Some, None, option_map, Result, Ok, Err}
use Rattle.vm_ids.specs.declared.chain.ChainItem.{ChainItem}
use Rattle.vm_ids.specs.declared.reply.Reply.{Reply}
use Rattle.vm_ids.specs.declared.reply.Reply.TheVariants as replies
use Rattle.vm_model.specs.Answering.{Answer}
use Rattle.actor_script.specs.Text.{ok_text, trouble_text}

-- These bytes were written, behind what was written before.
abbrev pub Writes : Option (List ℕ) → Option (List ℕ) → List ℕ → Type 0
Writes before after bytes = after ≡ option_map (λ written. written ++ bytes) before

-- A front of these bytes was written, maybe all of them.
pub record WritesFront (before after : Option (List ℕ)) (bytes : List ℕ) : Type 0 where
  pub front : List ℕ
  pub back : List ℕ
  pub parts : bytes ≡ front ++ back
  pub writes : Writes before after front

-- All of them where all went well, and else a front.
abbrev pub Wrote : {T E : Type 0} → Result T E → Option (List ℕ) → Option (List ℕ) → List ℕ → Type 0
Wrote (Ok x) before after bytes = Writes before after bytes
Wrote (Err e) before after bytes = WritesFront before after bytes

-- A chain may have more nodes than a line on the stack holds, so they are written one by one,
-- behind this front of the text.
abbrev pub reply_front : Reply → List ℕ
reply_front (replies.Chain items) = codes "chain"
reply_front reply = ok_text reply

abbrev pub answer_front : Answer → List ℕ
answer_front (Ok reply) = reply_front reply
answer_front (Err trouble) = trouble_text trouble

-- the nodes of a chain, where the answer is one
abbrev pub chain_in_reply : Reply → Option (List ChainItem)
chain_in_reply (replies.Chain items) = Some items
chain_in_reply reply = None

abbrev pub chain_in : Answer → Option (List ChainItem)
chain_in (Ok reply) = chain_in_reply reply
chain_in (Err trouble) = None
