-- The rows of the table: what holds of each of their ends, and which of them it is.
use Rattle.std.proofs.Common.{◌≡◌, ◌⊎◌, inl, inr, ℕ, ◌+◌, Bool, true, false, List, [], ◌∷◌, ◌++◌, length, Option, Some, None, refl, sym, ap, subst, ◌∙◌}
use Rattle.std.specs.Prelude.{Ok, Err}
use Rattle.std.specs.Option.{option_map_or}
use Rattle.vm_ids.specs.declared.reply.Reply.TheVariants as replies
use Rattle.vm_ids.specs.declared.reply.Trouble.TheVariants as troubles
use Rattle.vm_model.proofs.Outcomes.Rows.{each_ok, each_some, each_unless}
use Rattle.interface_callers.proofs.Words.{Actor, Answer, Answered, Cache, Command, FaultAt, IsNotRefused, Machine, MapperCounts, Mapping, MayFault, Outcome, PageForest, Place, Refusal, Reply, Segments, Span, actor_of, add_region, answer_of, blank, cache_of, copy_of, forest_shown, load_of, make_actor_of, map_of, overwrite, page_at, place, put_cache, put_page, put_span, refuse, reply, store_of, unless}

-- Which it is

pub plain_refused : (bad : Bool) (r : Refusal) (m : Machine) (go : Answered) → bad ≡ true → unless bad r m go ≡ refuse m r
unfolding unless
plain_refused true r m go e = refl
plain_refused false r m go e = absurd (cc e)

pub plain_goes : (bad : Bool) (r : Refusal) (m : Machine) (go : Answered) → bad ≡ false → unless bad r m go ≡ go
unfolding unless
plain_goes false r m go e = refl
plain_goes true r m go e = absurd (cc e)

-- What holds of each refusal and of what the row ends in holds of the row.
module _ (P : Answered → Type 0) (m : Machine) (refused : (r : Refusal) → P (refuse m r)) where
  pub actor_row : P (reply (replies.Actor (record { 0 = length m.actors + 1 })) (record m { actors = m.actors ++ Some [] ∷ [] })) → P (make_actor_of m)
  unfolding make_actor_of
  actor_row made = each_unless P _ _ m _ (refused _) (λ room. made)

  pub load_row : (actor address length : ℕ) → ((r : Reply) → P (reply r m)) → P (load_of m actor address length)
  unfolding load_of
  load_row actor address length same = each_ok P _ m _ refused (λ p e. same _)

  -- the cache that holds the place gets another page
  abbrev pub written : Place → List ℕ → Cache → Answered
  written p bytes c = reply replies.Done (put_cache m p.region.cache (put_page p.page (overwrite p.byte bytes (page_at m p)) c))

  pub store_row : (actor address : ℕ) (bytes : List ℕ) (h : Segments) → P (reply replies.Done m) → ((p : Place) → place m actor address (length bytes) ≡ Ok p → (c : Cache) → cache_of m p.region.cache ≡ Some c → P (written p bytes c)) → P (store_of m actor address bytes h)
  unfolding store_of
  store_row actor address bytes h same put = each_ok P (place m actor address (length bytes)) m _ refused (λ p e. each_unless P _ _ m _ (refused _) (λ writes. each_unless P _ _ m _ (refused _) (λ granted. by p (cache_of m p.region.cache) refl (put p e))))
    where
      by : (p : Place) (o : Option Cache) → cache_of m p.region.cache ≡ o → ((c : Cache) → cache_of m p.region.cache ≡ Some c → P (written p bytes c))
          → P (reply replies.Done (option_map_or (λ (c : Cache). put_cache m p.region.cache (put_page p.page (overwrite p.byte bytes (page_at m p)) c)) o m))
      by p None e put = same
      by p (Some c) e put = put c e

  pub copy_row : (s : Span) (h : Segments) → ((c d : Cache) → cache_of m s.from.0 ≡ Some c → cache_of m s.to.0 ≡ Some d → P (reply replies.Done (put_span m s c d))) → P (copy_of m s h)
  unfolding copy_of
  copy_row s h done = each_some P (cache_of m s.from.0) _ m _ (refused _) (λ c from. each_some P (cache_of m s.to.0) _ m _ (refused _) (λ d to.
      each_unless P _ _ m _ (refused _) (λ within. each_unless P _ _ m _ (refused _) (λ apart. each_unless P _ _ m _ (refused _) (λ unlocked. each_unless P _ _ m _ (refused _) (λ granted. done c d from to))))))

  pub map_row : (actor : ℕ) (p : Mapping) → ((rs : Actor) (c : Cache) → actor_of m actor ≡ Some rs → cache_of m p.extent.cache.0 ≡ Some c → P (reply (replies.Region (record { 0 = m.regions_made + 1 })) (add_region m actor rs p))) → P (map_of m actor p)
  unfolding map_of
  map_row actor p added = each_some P (actor_of m actor) _ m _ (refused _) (λ rs here. each_some P (cache_of m p.extent.cache.0) _ m _ (refused _) (λ c there.
      each_unless P _ _ m _ (refused _) (λ aligned. each_unless P _ _ m _ (refused _) (λ within. each_unless P _ _ m _ (refused _) (λ inside.
      each_unless P _ _ m _ (refused _) (λ apart. each_unless P _ _ m _ (refused _) (λ few. added rs c here there)))))))

-- What holds of the machine, and of the next one by the table, holds of the next one.
pub outcome_next : (P : Machine → Type 0) (x y : Machine) (c : Command) (f : Option PageForest) (h : Segments) (a : Answer) (rises : MapperCounts) → P x → P (answer_of x (forest_shown f x) c h).next → Outcome x f c h a y rises → P y
outcome_next P x y c f h (Ok r) rises p q o = subst (λ (b : Answered). P b.next) o q
outcome_next P x y c f h (Err (troubles.Refused r)) rises p q o = subst (λ (b : Answered). P b.next) o q
outcome_next P x y c f h (Err (troubles.Mapper at)) rises p q o = subst P (sym o.0) p
outcome_next P x y c f h (Err troubles.Memory) rises p q o = subst P (sym o.0) p

-- An answer is that of the row, or there is no memory for it.

pub record IsLack (row : Answered) (m : Machine) (a : Answer) (n : Machine) : Type 0 where
  pub is : a ≡ Err troubles.Memory
  pub same : n ≡ m
  pub on : IsNotRefused row.answer

abbrev pub RowIs : Answered → Machine → Answer → Machine → Type 0
RowIs row m a n = (row ≡ record { answer = a; next = n }) ⊎ IsLack row m a n

pub by_row : (m : Machine) (f : Option PageForest) (c : Command) (h : Segments) (row : Answered) → answer_of m (forest_shown f m) c h ≡ row → ((at : FaultAt) (rises : MapperCounts) → MayFault m f c h at rises → ⊥)
    → (a : Answer) (n : Machine) (rises : MapperCounts) → Outcome m f c h a n rises → RowIs row m a n
by_row m f c h row e sure (Ok r) n rises o = inl (sym e ∙ o)
by_row m f c h row e sure (Err (troubles.Refused r)) n rises o = inl (sym e ∙ o)
by_row m f c h row e sure (Err (troubles.Mapper at)) n rises o = absurd (sure at rises o.2)
by_row m f c h row e sure (Err troubles.Memory) n rises o = inr (record { is = refl; same = o.0; on = subst (λ (x : Answered). IsNotRefused x.answer) e o.2 })

-- without bytes
abbrev pub blanked : Answered → Answered
blanked a = record { answer = a.answer; next = blank a.next }

pub row_blank : (row : Answered) (w : Machine) (a : Answer) (n : Machine) → RowIs row w a n → RowIs (blanked row) (blank w) a (blank n)
row_blank row w a n (inl e) = inl (ap blanked e)
row_blank row w a n (inr l) = inr (record { is = l.is; same = ap blank l.same; on = l.on })

-- A command is done, or the mapper failed.

-- It is done, and leads to this machine.
pub record IsDone (a : Answer) (n after : Machine) : Type 0 where
  pub done : a ≡ Ok replies.Done
  pub next : n ≡ after

pub is_done : (after : Machine) (a : Answer) (n : Machine) → reply replies.Done after ≡ record { answer = a; next = n } → IsDone a n after
is_done after a n e = record { done = sym (ap (λ (x : Answered). x.answer) e); next = sym (ap (λ (x : Answered). x.next) e) }
