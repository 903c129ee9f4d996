-- What an access keeps of a machine, and what its answers are.
use Rattle.std.proofs.Common.{◌≡◌, ℕ, List, length, Option, Some, None, Ok, Err, refl, sym, ap, subst, ◌∙◌}
use Rattle.std.specs.Prelude.{IsSome}
use Rattle.std.specs.Option.{option_map_or}
use Rattle.vm_ids.specs.Accessing.{command_for}
use Rattle.vm_ids.specs.Counting.{MapperCounts}
use Rattle.vm_ids.specs.Held.{Segments}
use Rattle.vm_ids.specs.declared.access.Access.{Access}
use Rattle.vm_ids.specs.declared.access.Access.TheVariants as accesses
use Rattle.vm_ids.specs.declared.numbers.ActorId.{ActorId}
use Rattle.vm_ids.specs.declared.reply.Reply.TheVariants as replies
use Rattle.vm_ids.specs.declared.reply.Trouble.TheVariants as troubles
use Rattle.vm_model.specs.Answering.{Answer, Answered, answer_of, load_of, overwrite, page_at, put_cache, put_page, store_of, write_at}
use Rattle.vm_model.specs.Machine.{Actor, Cache, Machine, actor_of, cache_of}
use Rattle.vm_model.specs.Outcome.{IsAlike, Outcome, OutcomeAt}
use Rattle.vm_model.specs.Place.{Place, place, place_of_actor}
use Rattle.vm_model.specs.PageForest.{PageForest, forest_shown}
use Rattle.vm_model.specs.Run.{IsUnrefused, State}
use Rattle.vm_model.proofs.Outcomes.Rows.{each_ok, each_unless}

-- the actors stay

abbrev ActorsStay : Machine → Answered → Type 0
ActorsStay m a = a.next.actors ≡ m.actors

written : (m : Machine) (p : Place) (bytes : List ℕ) → (write_at m p bytes).actors ≡ m.actors
written m p bytes = go (cache_of m p.region.cache)
  where
    go : (o : Option Cache) → (option_map_or (λ c. put_cache m p.region.cache (put_page p.page (overwrite p.byte bytes (page_at m p)) c)) o m).actors ≡ m.actors
    go None = refl
    go (Some c) = refl

load_stays : (m : Machine) (actor address count : ℕ) → ActorsStay m (load_of m actor address count)
unfolding load_of
load_stays m actor address count = each_ok (ActorsStay m) (place m actor address count) m _ (λ r. refl) (λ p e. refl)

store_stays : (m : Machine) (actor address : ℕ) (bytes : List ℕ) (h : Segments) → ActorsStay m (store_of m actor address bytes h)
unfolding store_of
store_stays m actor address bytes h =
    each_ok (ActorsStay m) (place m actor address (length bytes)) m _ (λ r. refl) (λ p e.
    each_unless (ActorsStay m) _ _ m _ refl (λ e. each_unless (ActorsStay m) _ _ m _ refl (λ e. written m p bytes)))

row_stays : (m : Machine) (f : PageForest) (actor : ActorId) (x : Access) (h : Segments) → ActorsStay m (answer_of m f (command_for actor x) h)
row_stays m f actor (accesses.Load address count) h = load_stays m actor.0 address count
row_stays m f actor (accesses.Store address piece) h = store_stays m actor.0 address piece h

outcome_stays : (m next : Machine) (f : Option PageForest) (actor : ActorId) (x : Access) (h : Segments) (a : Answer) (rises : MapperCounts) → Outcome m f (command_for actor x) h a next rises → next.actors ≡ m.actors
outcome_stays m next f actor x h (Ok r) rises o = sym (ap (λ (a : Answered). a.next.actors) o) ∙ row_stays m (forest_shown f m) actor x h
outcome_stays m next f actor x h (Err (troubles.Refused r)) rises o = sym (ap (λ (a : Answered). a.next.actors) o) ∙ row_stays m (forest_shown f m) actor x h
outcome_stays m next f actor x h (Err (troubles.Mapper at)) rises o = ap (λ (m : Machine). m.actors) o.0
outcome_stays m next f actor x h (Err troubles.Memory) rises o = ap (λ (m : Machine). m.actors) o.0

pub actors_stay : (told : Option Segments) (m next : Machine) (f : Option PageForest) (actor : ActorId) (x : Access) (a : Answer) (rises : MapperCounts) → OutcomeAt told m f (command_for actor x) a next rises → next.actors ≡ m.actors
actors_stay (Some h) m next f actor x a rises o = outcome_stays m next f actor x h a rises o
actors_stay None m next f actor x a rises o =
    ap (λ (m : Machine). m.actors) o.is_next ∙ outcome_stays o.whole o.whole_next f actor x o.segments o.whole_answer rises o.outcome ∙ sym (ap (λ (m : Machine). m.actors) o.is)

-- an access that is carried out is of a living actor

abbrev IsDone : Answer → Type 0
IsDone (Ok reply) = Unit {0}
IsDone (Err trouble) = ⊥

-- the actor is alive where the answer is no trouble
abbrev IsOfLiving : Machine → ℕ → Answered → Type 0
IsOfLiving m actor a = IsDone a.answer → IsSome (actor_of m actor)

placed_alive : (bytes : ℕ) (o : Option Actor) (address count : ℕ) (p : Place) → place_of_actor bytes o address count ≡ Ok p → IsSome o
placed_alive bytes None address count p e = absurd (cc)
placed_alive bytes (Some a) address count p e = refl

load_alive : (m : Machine) (actor address count : ℕ) → IsOfLiving m actor (load_of m actor address count)
unfolding load_of
load_alive m actor address count =
    each_ok (IsOfLiving m actor) (place m actor address count) m _ (λ r h. absurd h) (λ p e h. placed_alive m.page_bytes (actor_of m actor) address count p e)

store_alive : (m : Machine) (actor address : ℕ) (bytes : List ℕ) (h : Segments) → IsOfLiving m actor (store_of m actor address bytes h)
unfolding store_of
store_alive m actor address bytes h =
    each_ok (IsOfLiving m actor) (place m actor address (length bytes)) m _ (λ r d. absurd d) (λ p e.
    each_unless (IsOfLiving m actor) _ _ m _ (λ d. absurd d) (λ f. each_unless (IsOfLiving m actor) _ _ m _ (λ d. absurd d) (λ f d. placed_alive m.page_bytes (actor_of m actor) address (length bytes) p e)))

row_alive : (m : Machine) (f : PageForest) (actor : ActorId) (x : Access) (h : Segments) → IsOfLiving m actor.0 (answer_of m f (command_for actor x) h)
row_alive m f actor (accesses.Load address count) h = load_alive m actor.0 address count
row_alive m f actor (accesses.Store address piece) h = store_alive m actor.0 address piece h

outcome_alive : (m next : Machine) (f : Option PageForest) (actor : ActorId) (x : Access) (h : Segments) (a : Answer) (rises : MapperCounts) → Outcome m f (command_for actor x) h a next rises → IsDone a → IsSome (actor_of m actor.0)
outcome_alive m next f actor x h (Ok r) rises o d = row_alive m (forest_shown f m) actor x h (subst (λ (a : Answered). IsDone a.answer) (sym o) tt)
outcome_alive m next f actor x h (Err e) rises o d = absurd d

alike_done : (a b : Answer) → IsAlike a b → IsDone b → IsDone a
alike_done (Ok r) b h d = tt
alike_done (Err e) (Ok r) h d = absurd (cc)
alike_done (Err e) (Err f) h d = absurd d

alive_at : (told : Option Segments) (m next : Machine) (f : Option PageForest) (actor : ActorId) (x : Access) (a : Answer) (rises : MapperCounts) → OutcomeAt told m f (command_for actor x) a next rises → IsDone a → IsSome (actor_of m actor.0)
alive_at (Some h) m next f actor x a rises o d = outcome_alive m next f actor x h a rises o d
alive_at None m next f actor x a rises o d =
    subst (λ (m : Machine). IsSome (actor_of m actor.0)) (sym o.is) (outcome_alive o.whole o.whole_next f actor x o.segments o.whole_answer rises o.outcome (alike_done o.whole_answer a o.alike d))

pub unrefused_alive : (s : State) (actor : ActorId) (x : Access) → IsUnrefused s (command_for actor x) → IsSome (actor_of s.machine actor.0)
unrefused_alive s actor x h = alive_at s.segments s.machine h.next s.forest actor x (Ok h.reply) _ h.outcome tt

-- it never lacks memory

outcome_remembers : (m next : Machine) (f : Option PageForest) (actor : ActorId) (x : Access) (h : Segments) (rises : MapperCounts) → Outcome m f (command_for actor x) h (Err troubles.Memory) next rises → ⊥
outcome_remembers m next f actor (accesses.Load address count) h rises o = o.1
outcome_remembers m next f actor (accesses.Store address piece) h rises o = o.1

alike_memory : (a : Answer) → IsAlike a (Err troubles.Memory) → a ≡ Err troubles.Memory
alike_memory (Ok replies.Done) h = h
alike_memory (Ok (replies.Actor actor)) h = h
alike_memory (Ok (replies.Cache cache)) h = h
alike_memory (Ok (replies.Region region)) h = h
alike_memory (Ok (replies.Bytes bytes)) h = h
alike_memory (Ok (replies.Status status)) h = h
alike_memory (Ok (replies.Chain items)) h = h
alike_memory (Ok (replies.Stat counts)) h = h
alike_memory (Ok (replies.Process process)) h = h
alike_memory (Ok (replies.Port port)) h = h
alike_memory (Err e) h = h

pub remembers : (told : Option Segments) (m next : Machine) (f : Option PageForest) (actor : ActorId) (x : Access) (rises : MapperCounts) → OutcomeAt told m f (command_for actor x) (Err troubles.Memory) next rises → ⊥
remembers (Some h) m next f actor x rises o = outcome_remembers m next f actor x h rises o
remembers None m next f actor x rises o =
    outcome_remembers o.whole o.whole_next f actor x o.segments rises
    (subst (λ (a : Answer). Outcome o.whole f (command_for actor x) o.segments a o.whole_next rises) (alike_memory o.whole_answer o.alike) o.outcome)
