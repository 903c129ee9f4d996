-- A manager with the cache of a segment more.
use Rattle.std.proofs.Common.{◌≡◌, ℕ, ◌+◌, ◌*◌, ◌<◌, ◌≤◌, [], List, length, Option, Some, None, refl, sym, ap, subst, arith}
use Rattle.std.specs.Prelude.{IfSome, IsSome, IsSomeAnd, Ok, option_and_then, slice_get}
use Rattle.std.specs.FinMap.{get}
use Rattle.std.proofs.lemmas.Option.{slice_get-get_or}
use Rattle.vm_ids.specs.Counting.{no_counts}
use Rattle.vm_ids.specs.Held.{Held, page_of}
use Rattle.vm_ids.specs.declared.command.Command.TheVariants as commands
use Rattle.vm_ids.specs.declared.node_name.NodeName.{NodeName}
use Rattle.vm_ids.specs.declared.numbers.CacheId.{CacheId}
use Rattle.vm_ids.specs.declared.numbers.NodeId.{NodeId}
use Rattle.vm_ids.specs.declared.numbers.SegId.{SegId}
use Rattle.vm_ids.specs.declared.reply.Reply.TheVariants as replies
use Rattle.vm_ids.specs.Forest.Commands.{make, page_names}
use Rattle.vm_ids.specs.Forest.NameLists.{◌∈◌}
use Rattle.vm_ids.specs.Forest.Nodes.{IsNode}
use Rattle.local_cache.specs.declared.own_state.OwnState.TheVariants.{OnSegment}
use Rattle.local_cache.specs.Arena.{Arena, CellsStay, HasPages, IsMade}
use Rattle.local_cache.specs.Reading as arena
use Rattle.local_cache.specs.Sound as arena_sound
use Rattle.local_cache.proofs.NewCache.Whole.{fresh, named_alike, pages_with}
use Rattle.local_cache.proofs.Nodes.Count.{forest_len}
use Rattle.residency.specs.declared.store.Store.{Store}
use Rattle.residency.specs.World.{world}
use Rattle.residency.proofs.NewCaches.MadeNamed.{opened_right, own_new, own_old}
use Rattle.vm_model.specs.declared.limits.TheConstants.{LIVE_PAGES, MOST_MADE}
use Rattle.vm_model.specs.Run.{AnswerIs}
use Rattle.contexts.specs.Actors.{Actors}
use Rattle.pvm_core.specs.Manager.{IsManagerSound, IsValid, forest_of, state_at}
use Rattle.pvm_core.specs.Opening.{ArePagesOf, HasSegment, IsOpened}
use Rattle.pvm_core.proofs.Answering.Kept.{seen}
use Rattle.pvm_core.proofs.Meaning.Live.{nodes_most}
use Rattle.pvm_core.proofs.Opening.Answer.{answer_opened, named_page, whole_opened}
use Rattle.pvm_core.proofs.Opening.Forest.{made_forest, with_pages}
use Rattle.pvm_core.proofs.Opening.Sound.{opened_full, opened_sized, opened_sound}
use Rattle.pvm_core.proofs.Meaning.Values.{followed_of}

module _ (b d : Arena) (u : Store) (t : Actors) (live n : ℕ) (cache : CacheId) (seg : SegId) (nodes : List NodeId) (size : length nodes ≡ n) (made : IsMade b d cache (Some seg) OnSegment nodes) (pages : HasPages d cache n OnSegment) (stays : CellsStay b d)
    (forest : arena.forest_of d ≡ make (pages_with OnSegment cache n) (arena.forest_of b)) (sound : arena_sound.IsSound d) (i : IsManagerSound b u t live) (free : IsOpened b seg → ⊥) (few : live + n ≤ LIVE_PAGES) (slots : 2 * (live + n) ≤ length u.slots) where
  pub named_sound : IsManagerSound d u t (live + n)
  named_sound = opened_sound b d u t live n cache seg nodes size made forest sound stays i free few slots

  fresh_page : (x : NodeName) → x ∈ page_names cache 0 n → IsNode (arena.forest_of b) x → ⊥
  fresh_page x k is = ((fresh b d i.nodes cache n (Some seg) OnSegment nodes size made forest sound (omega (arith, forest_len b, nodes_most i, few))).fresh x (subst (λ xs. x ∈ xs) (sym (named_alike OnSegment (page_names cache 0 n))) k)).0 is

  module _ (h : Option Held) (v : IsValid (seen b u t) h) (has : HasSegment h seg t.page_bytes n) where
    there : (page : ℕ) → page < length nodes → IfSome h (λ k. IsSome (page_of k seg.0 page))
    there page low = go h has
      where
        at : (ps : List (List ℕ)) → page < length ps → IsSome (slice_get ps page)
        at ps less = ap Rattle.std.specs.Prelude.is_some (slice_get-get_or ps page [] less)

        of : (o : Option (List (List ℕ))) → IsSomeAnd o (ArePagesOf t.page_bytes n) → IsSome (option_and_then (λ ps. slice_get ps page) o)
        of None has = absurd has
        of (Some ps) has = at ps (omega (arith, low, size, has.count))

        go : (g : Option Held) → HasSegment g seg t.page_bytes n → IfSome g (λ k. IsSome (page_of k seg.0 page))
        go None has = tt
        go (Some g) has = of (get g.segments seg.0) has

    apart : (other : ℕ) → Rattle.local_cache.specs.Whole.segment_of b other ≡ Some (Some seg) → ⊥
    apart other e = free (other, e)

    forest_now : forest_of (seen d u t) h ≡ make (with_pages (named_page h seg) (page_names cache 0 n)) (forest_of (seen b u t) h)
    forest_now = made_forest h b d u cache n OnSegment (named_page h seg) pages stays
        (λ m page low is. own_new (world h None b u) d cache seg nodes v.right made i.nodes.sound sound apart there m page (omega (arith, low, size)) is)
        (λ m held. own_old (world h None b u) d cache seg nodes v.right made i.nodes.sound sound apart there m (stays m held))
        forest i.nodes.sound sound fresh_page

    pub named_valid : IsValid (seen d u t) h
    named_valid = record {
      right = opened_right (world h None b u) d cache seg nodes v.right made i.nodes.sound sound apart there (omega (arith, nodes_most i, size, slots));
      sized = opened_sized b d u t live n cache seg nodes size made forest sound stays i free few slots h has v.sized;
      full = opened_full b d u t live n cache seg nodes size made forest sound stays i free few slots h has v.full;
      whole = whole_opened (seen b u t) (seen d u t) h cache seg n nodes size made i.actors.some has (followed_of (seen b u t) h i.nodes i.actors.some v.whole) forest_now (refl, refl, refl, refl) v.whole;
    }

    pub named_answer : length b.caches < MOST_MADE → AnswerIs (state_at (seen b u t) h) (commands.OpenSegment seg) (Ok (replies.Cache cache)) [] no_counts (state_at (seen d u t) h)
    named_answer low = answer_opened (seen b u t) (seen d u t) h cache seg n nodes size made i.actors.some has (followed_of (seen b u t) h i.nodes i.actors.some v.whole) forest_now (refl, refl, refl, refl)
        i.nodes live i.counted low few free v.whole
