-- The machine itself refuses nothing as `Full`.
use Rattle.std.proofs.Common.{◌≡◌, ℕ, Bool, true, false, cond, List, length, Option, Some, None, refl, ap, subst, ◌∙◌}
use Rattle.std.specs.Prelude.{nat_lt, Result, Ok, Err, ◌+◌, ◌%◌}
use Rattle.std.specs.FinMap.{get}
use Rattle.vm_ids.specs.Counting.{MapperCounts}
use Rattle.vm_ids.specs.Held.{Segments}
use Rattle.vm_ids.specs.declared.command.Command.{Command}
use Rattle.vm_ids.specs.declared.command.Command.TheVariants as commands
use Rattle.vm_ids.specs.declared.refusal.Refusal.{Refusal}
use Rattle.vm_ids.specs.declared.refusal.Refusal.TheVariants as refusals
use Rattle.vm_ids.specs.declared.reply.Reply.TheVariants as replies
use Rattle.vm_ids.specs.declared.reply.Trouble.TheVariants as troubles
use Rattle.vm_model.specs.Answering.{Answer, Answered, answer_of, chain_answer, copy_of, destroy_of, exit_actor_of, find_of, flush_of, invalidate_of, load_of, lock_of, make_actor_of, make_temp_of, map_of, move_of, open_of, protect_of, split_of, status_of, store_of, sync_of, unlock_of, unmap_of, with_ok}
use Rattle.vm_model.specs.Machine.{Actor, Machine, Region, actor_of}
use Rattle.vm_model.specs.Outcome.{IsAlike, Outcome, OutcomeAt}
use Rattle.vm_model.specs.PageForest.{PageForest, forest_shown}
use Rattle.vm_model.specs.Place.{Place, place, place_of_actor, placed, region_at}
use Rattle.vm_model.proofs.Outcomes.Rows.{each_some, each_unless}

abbrev full : Answer
full = Err (troubles.Refused refusals.Full)

abbrev IsOther : Answered → Type 0
IsOther a = a.answer ≡ full → ⊥

placed_other : (b : ℕ) (address : ℕ) (o : Option Region) → placed b address o ≡ Err refusals.Full → ⊥
placed_other b address None e = absurd (cc e)
placed_other b address (Some r) e = absurd (cc e)

place_other : (b : ℕ) (o : Option Actor) (address n : ℕ) → place_of_actor b o address n ≡ Err refusals.Full → ⊥
place_other b None address n e = absurd (cc e)
place_other b (Some rs) address n e = go (nat_lt b (address % b + n)) e
  where
    go : (c : Bool) → cond c (Err refusals.Crosses) (placed b address (region_at b address rs)) ≡ Err refusals.Full → ⊥
    go true e = absurd (cc e)
    go false e = placed_other b address (region_at b address rs) e

module _ (m : Machine) where
  -- where the place of an access decides
  each_place : (actor address n : ℕ) (go : Place → Answered) → ((at : Place) → IsOther (go at)) → IsOther (with_ok (place m actor address n) m go)
  unfolding with_ok
  each_place actor address n go goes = at (place m actor address n) refl
    where
      at : (o : Result Place Refusal) → place m actor address n ≡ o → IsOther (with_ok o m go)
      at (Ok p) is = goes p
      at (Err r) is = λ e. place_other m.page_bytes (actor_of m actor) address n (is ∙ ap (λ (r : Refusal). let x : Result Place Refusal = Err r in x) (let same : r ≡ refusals.Full = cc e in same))

  loads : (actor address n : ℕ) → IsOther (load_of m actor address n)
  unfolding load_of
  loads actor address n = each_place actor address n _ (λ _ e. cc e)

  stores : (actor address : ℕ) (bytes : List ℕ) (h : Segments) → IsOther (store_of m actor address bytes h)
  unfolding store_of
  stores actor address bytes h = each_place actor address (length bytes) _ (λ _. each_unless IsOther _ _ m _ (λ e. cc e) (λ _. each_unless IsOther _ _ m _ (λ e. cc e) (λ _ e. cc e)))

  rows : (f : PageForest) (c : Command) (h : Segments) → IsOther (answer_of m f c h)
  unfolding make_actor_of exit_actor_of make_temp_of open_of destroy_of copy_of move_of map_of split_of protect_of lock_of unlock_of unmap_of status_of find_of sync_of flush_of invalidate_of chain_answer
  rows f commands.MakeActor h = each_unless IsOther _ _ m _ (λ e. cc e) (λ _ e. cc e)
  rows f (commands.ExitActor actor) h = each_some IsOther _ _ m _ (λ e. cc e) (λ _ _ e. cc e)
  rows f (commands.MakeTemp pages) h = each_unless IsOther _ _ m _ (λ e. cc e) (λ _ e. cc e)
  rows f (commands.OpenSegment seg) h =
      each_unless IsOther _ _ m _ (λ e. cc e) (λ _. each_unless IsOther _ _ m _ (λ e. cc e) (λ _. each_some IsOther (get h.pages seg.0) _ m _ (λ e. cc e) (λ _ _. each_unless IsOther _ _ m _ (λ e. cc e) (λ _ e. cc e))))
  rows f (commands.Destroy cache) h = each_some IsOther _ _ m _ (λ e. cc e) (λ _ _. each_unless IsOther _ _ m _ (λ e. cc e) (λ _ e. cc e))
  rows f (commands.Copy span) h =
      each_some IsOther _ _ m _ (λ e. cc e) (λ _ _. each_some IsOther _ _ m _ (λ e. cc e) (λ _ _. each_unless IsOther _ _ m _ (λ e. cc e) (λ _. each_unless IsOther _ _ m _ (λ e. cc e) (λ _. each_unless IsOther _ _ m _ (λ e. cc e) (λ _.
      each_unless IsOther _ _ m _ (λ e. cc e) (λ _ e. cc e))))))
  rows f (commands.Move span) h =
      each_some IsOther _ _ m _ (λ e. cc e) (λ _ _. each_some IsOther _ _ m _ (λ e. cc e) (λ _ _. each_unless IsOther _ _ m _ (λ e. cc e) (λ _. each_unless IsOther _ _ m _ (λ e. cc e) (λ _. each_unless IsOther _ _ m _ (λ e. cc e) (λ _.
      each_unless IsOther _ _ m _ (λ e. cc e) (λ _. each_unless IsOther _ _ m _ (λ e. cc e) (λ _ e. cc e)))))))
  rows f (commands.Map actor p) h =
      each_some IsOther _ _ m _ (λ e. cc e) (λ _ _. each_some IsOther _ _ m _ (λ e. cc e) (λ _ _. each_unless IsOther _ _ m _ (λ e. cc e) (λ _. each_unless IsOther _ _ m _ (λ e. cc e) (λ _. each_unless IsOther _ _ m _ (λ e. cc e) (λ _.
      each_unless IsOther _ _ m _ (λ e. cc e) (λ _. each_unless IsOther _ _ m _ (λ e. cc e) (λ _ e. cc e)))))))
  rows f (commands.Split region pages) h = each_some IsOther _ _ m _ (λ e. cc e) (λ _ _. each_unless IsOther _ _ m _ (λ e. cc e) (λ _. each_unless IsOther _ _ m _ (λ e. cc e) (λ _ e. cc e)))
  rows f (commands.Protect region prot) h = each_some IsOther _ _ m _ (λ e. cc e) (λ _ _ e. cc e)
  rows f (commands.Lock region) h = each_some IsOther _ _ m _ (λ e. cc e) (λ _ _. each_unless IsOther _ _ m _ (λ e. cc e) (λ _. each_unless IsOther _ _ m _ (λ e. cc e) (λ _ e. cc e)))
  rows f (commands.Unlock region) h = each_some IsOther _ _ m _ (λ e. cc e) (λ _ _. each_unless IsOther _ _ m _ (λ e. cc e) (λ _ e. cc e))
  rows f (commands.Unmap region) h = each_some IsOther _ _ m _ (λ e. cc e) (λ _ _. each_unless IsOther _ _ m _ (λ e. cc e) (λ _ e. cc e))
  rows f (commands.Status region) h = each_some IsOther _ _ m _ (λ e. cc e) (λ _ _ e. cc e)
  rows f (commands.Find actor address) h = each_some IsOther _ _ m _ (λ e. cc e) (λ _ _. each_some IsOther _ _ m _ (λ e. cc e) (λ _ _ e. cc e))
  rows f (commands.Load actor address length) h = loads actor.0 address length
  rows f (commands.Store actor address piece) h = stores actor.0 address piece h
  rows f (commands.Sync extent) h = each_some IsOther _ _ m _ (λ e. cc e) (λ _ _. each_some IsOther _ _ m _ (λ e. cc e) (λ _ _. each_unless IsOther _ _ m _ (λ e. cc e) (λ _ e. cc e)))
  rows f (commands.Flush extent) h =
      each_some IsOther _ _ m _ (λ e. cc e) (λ _ _. each_some IsOther _ _ m _ (λ e. cc e) (λ _ _. each_unless IsOther _ _ m _ (λ e. cc e) (λ _. each_unless IsOther _ _ m _ (λ e. cc e) (λ _ e. cc e))))
  rows f (commands.Invalidate extent) h =
      each_some IsOther _ _ m _ (λ e. cc e) (λ _ _. each_some IsOther _ _ m _ (λ e. cc e) (λ _ _. each_unless IsOther _ _ m _ (λ e. cc e) (λ _. each_unless IsOther _ _ m _ (λ e. cc e) (λ _ e. cc e))))
  rows f (commands.PageOut count) h = λ e. cc e
  rows f (commands.Chain cache page) h = each_some IsOther _ _ m _ (λ e. cc e) (λ _ _. each_unless IsOther _ _ m _ (λ e. cc e) (λ _ e. cc e))
  rows f commands.Stat h = λ e. cc e

outcome_other : (m next : Machine) (f : Option PageForest) (c : Command) (h : Segments) (rises : MapperCounts) → Outcome m f c h full next rises → ⊥
outcome_other m next f c h rises o = rows m (forest_shown f m) c h (ap (λ (a : Answered). a.answer) o)

alike_full : (a : Answer) → IsAlike a full → a ≡ full
alike_full (Ok replies.Done) h = h
alike_full (Ok (replies.Actor actor)) h = h
alike_full (Ok (replies.Cache cache)) h = h
alike_full (Ok (replies.Region region)) h = h
alike_full (Ok (replies.Bytes bytes)) h = h
alike_full (Ok (replies.Status status)) h = h
alike_full (Ok (replies.Chain items)) h = h
alike_full (Ok (replies.Stat counts)) h = h
alike_full (Ok (replies.Process process)) h = h
alike_full (Ok (replies.Port port)) h = h
alike_full (Err e) h = h

-- nor does an answer of a machine with no limit
pub never_full : (told : Option Segments) (m next : Machine) (f : Option PageForest) (c : Command) (rises : MapperCounts) → OutcomeAt told m f c full next rises → ⊥
never_full (Some h) m next f c rises o = outcome_other m next f c h rises o
never_full None m next f c rises o = outcome_other o.whole o.whole_next f c o.segments rises (subst (λ (a : Answer). Outcome o.whole f c o.segments a o.whole_next rises) (alike_full o.whole_answer o.alike) o.outcome)
