-- What an answer was, where all but its bytes is told.
use Rattle.std.proofs.Common.{◌≡◌, refl, sym, subst}
use Rattle.std.specs.Prelude.{Ok, Err, Result}
use Rattle.vm_ids.specs.declared.reply.Reply.TheVariants as replies
use Rattle.interface_callers.proofs.Words.{Answer, IsAlike, Trouble, done_by}

pub alike_self : (a : Answer) → IsAlike a a
alike_self (Ok (replies.Bytes bytes)) = refl
alike_self a = refl

-- a trouble
pub alike_err : (t : Trouble) (a : Answer) → IsAlike a (Err t) → a ≡ Err t
alike_err t (Ok (replies.Bytes bytes)) h = h
alike_err t a h = h

pub alike_done : (a : Answer) (result : Result (Unit {0}) Trouble) → IsAlike a (done_by result) → a ≡ done_by result
alike_done (Ok (replies.Bytes bytes)) (Ok u) h = h
alike_done (Ok (replies.Bytes bytes)) (Err t) h = h
alike_done a (Ok u) h = h
alike_done a (Err t) h = h

-- forwards: an answer without bytes is that answer
pub still_done : (a b : Answer) → a ≡ Ok replies.Done → IsAlike a b → b ≡ Ok replies.Done
still_done a b e h = sym (subst (λ (a : Answer). IsAlike a b) e h)

pub still_err : (t : Trouble) (a b : Answer) → a ≡ Err t → IsAlike a b → b ≡ Err t
still_err t a b e h = sym (subst (λ (a : Answer). IsAlike a b) e h)
