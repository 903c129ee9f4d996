-- A segment was opened: the answer.
use Rattle.std.proofs.Common.{◌≡◌, Bool, cond, ℕ, zero, suc, ◌+◌, ◌<◌, ◌≤◌, List, [], ◌∷◌, length, map, replicate, Option, Some, None, refl, sym, ap, ◌∙◌, subst, arith}
use Rattle.std.specs.Prelude.{IfSome, IsSome, IsSomeAnd, Ok, option_and_then, option_map, slice_get, sum_by}
use Rattle.std.specs.Cmp.{nat_cmp_total}
use Rattle.std.specs.FinMap.{empty, get, get-insert, insert}
use Rattle.std.specs.Ordering.{nat_cmp}
use Rattle.std.specs.List.{All}
use Rattle.std.proofs.lemmas.List.{length-map, length-replicate}
use Rattle.std.proofs.lemmas.List.Elements.{All-get_or}
use Rattle.std.proofs.lemmas.Option.{get_or_from_slice_get, slice_get_within}
use Rattle.vm_ids.specs.Counting.{no_counts}
use Rattle.vm_ids.specs.Held.{Held, Segments, page_of, segments_of}
use Rattle.vm_ids.specs.declared.command.Command.TheVariants as commands
use Rattle.vm_ids.specs.declared.node_name.NodeName.{NodeName}
use Rattle.vm_ids.specs.declared.node_name.NodeName.TheVariants.{Live, Working}
use Rattle.vm_ids.specs.declared.numbers.CacheId.{CacheId}
use Rattle.vm_ids.specs.declared.numbers.NodeId.{NodeId}
use Rattle.vm_ids.specs.declared.numbers.SegId.{SegId}
use Rattle.vm_ids.specs.declared.reply.Reply.TheVariants as replies
use Rattle.vm_ids.specs.Forest.Commands.{make, page_name, page_names}
use Rattle.local_cache.proofs.Nodes.Numbers.{tied}
use Rattle.local_cache.specs.declared.own_state.OwnState.TheVariants.{OnSegment}
use Rattle.local_cache.specs.Arena.{IsMade, entry_for, new_table, page_count}
use Rattle.local_cache.specs.Whole as whole
use Rattle.vm_model.specs.declared.limits.TheConstants.{LIVE_PAGES, MOST_MADE}
use Rattle.vm_model.specs.Answering.{opened, reply}
use Rattle.vm_model.specs.Machine.{Cache, Machine, Page, zero_page}
use Rattle.vm_model.specs.Outcome.{HasWholePages, IsWhole, OutcomeAt}
use Rattle.vm_model.specs.PageForest.{nodes_of, told}
use Rattle.vm_model.specs.Laws.{IsFollowed}
use Rattle.vm_model.specs.Run.{AnswerIs}
use Rattle.pvm_core.specs.Manager.{Manager, forest_of, machine_by, machine_of, state_at}
use Rattle.pvm_core.specs.Opening.{ArePagesOf, HasSegment, IsOpened}
use Rattle.pvm_core.proofs.Opening.Forest.{named_pages, with_pages}
use Rattle.pvm_core.proofs.Opening.Machine.{IsAdded, blank_added, forest_added, machine_added, whole_added, with_cache}
use Rattle.pvm_core.proofs.Opening.Rows.{open_row}
use Rattle.pvm_core.proofs.Answering.Reaching.{as_segments, no_push}
use Rattle.pvm_core.proofs.Meaning.Shown.{shown_made}
use Rattle.pvm_core.proofs.Meaning.Values.{blank_of, zeroed, zeroed_whole}

-- The pages of a segment

-- so many pages of a segment, or as many empty ones where they aren't told
abbrev pub pages_for : Option Held → SegId → ℕ → List Page
pages_for None seg n = replicate n []
pages_for (Some h) seg n = Rattle.std.specs.Prelude.unwrap_or (get h.segments seg.0) []

-- the page of a name in this segment
abbrev pub named_page : Option Held → SegId → NodeName → Option Page
named_page h seg (Live cache page) = option_and_then (λ k. page_of k seg.0 page.0) h
named_page h seg (Working k) = None

pub many : (h : Option Held) (seg : SegId) (b n : ℕ) → HasSegment h seg b n → length (pages_for h seg n) ≡ n
many None seg b n has = length-replicate n []
many (Some h) seg b n has = go (get h.segments seg.0) has
  where
    go : (o : Option (List Page)) → IsSomeAnd o (ArePagesOf b n) → length (Rattle.std.specs.Prelude.unwrap_or o []) ≡ n
    go None has = absurd has
    go (Some ps) has = has.count

pub whole_for : (h : Option Held) (seg : SegId) (b n : ℕ) → HasSegment h seg b n → IfSome h (λ _. IsWhole b (Some (opened seg.0 (pages_for h seg n))))
whole_for None seg b n has = tt
whole_for (Some h) seg b n has = go (get h.segments seg.0) has
  where
    go : (o : Option (List Page)) → IsSomeAnd o (ArePagesOf b n) → All (λ (p : Page). length p ≡ b) (Rattle.std.specs.Prelude.unwrap_or o [])
    go None has = absurd has
    go (Some ps) has = has.whole

pub held_for : (h : Held) (seg : SegId) (b n : ℕ) → HasSegment (Some h) seg b n → get h.segments seg.0 ≡ Some (pages_for (Some h) seg n)
held_for h seg b n has = go (get h.segments seg.0) has
  where
    go : (o : Option (List Page)) → IsSomeAnd o (ArePagesOf b n) → o ≡ Some (Rattle.std.specs.Prelude.unwrap_or o [])
    go None has = absurd has
    go (Some ps) has = refl

pub told_some : (b : ℕ) (p : Page) → length p ≡ b → 1 ≤ b → Some p ≡ told p
told_some b [] e some = absurd (omega (arith, e, some))
told_some b (x ∷ p) e some = refl

get_replicate : (n i : ℕ) (p : Page) → slice_get (replicate {A = Page} n []) i ≡ Some p → [] ≡ p
get_replicate zero i p e = absurd (cc e)
get_replicate (suc n) zero p e = cc e
get_replicate (suc n) (suc i) p e = get_replicate n i p e

-- each page of the cache is that of the segment
each_page : (h : Option Held) (seg : SegId) (b n : ℕ) → 1 ≤ b → HasSegment h seg b n → (cache : CacheId) (i : ℕ) (p : Page) → slice_get (pages_for h seg n) i ≡ Some p → named_page h seg (page_name cache (0 + i)) ≡ told p
each_page None seg b n some has cache i p e = ap told (get_replicate n i p e)
each_page (Some h) seg b n some has cache i p e = go (get h.segments seg.0) has e
  where
    go : (o : Option (List Page)) → IsSomeAnd o (ArePagesOf b n) → slice_get (Rattle.std.specs.Prelude.unwrap_or o []) i ≡ Some p → option_and_then (λ (ps : List Page). slice_get ps (0 + i)) o ≡ told p
    go None has e = absurd has
    go (Some ps) has e =
        ap (slice_get ps) (let z : 0 + i ≡ i = omega arith in z) ∙ e
        ∙ told_some b p (subst (λ (q : Page). length q ≡ b) (get_or_from_slice_get ps i p p e) (All-get_or (λ (q : Page). length q ≡ b) ps i p (slice_get_within ps i p e) has.whole)) some

pub nodes_for : (h : Option Held) (seg : SegId) (b n : ℕ) → 1 ≤ b → HasSegment h seg b n → (cache : CacheId) → with_pages (named_page h seg) (page_names cache 0 n) ≡ nodes_of cache.0 (Some (opened seg.0 (pages_for h seg n)))
nodes_for h seg b n some has cache =
    ap (λ (k : ℕ). with_pages (named_page h seg) (page_names cache 0 k)) (sym (many h seg b n has))
    ∙ named_pages (named_page h seg) cache 0 (pages_for h seg n) (each_page h seg b n some has cache)

blank_equal : (n : ℕ) (x : Page) → map (λ (p : Page). []) (replicate n x) ≡ replicate {A = Page} n []
blank_equal zero x = refl
blank_equal (suc n) x = ap (λ (xs : List Page). [] ∷ xs) (blank_equal n x)

-- a segment of as many zero pages
abbrev pub zeros_in : SegId → ℕ → ℕ → Segments
zeros_in seg b n = record { pages = insert empty seg.0 (replicate n (zero_page b)); denied = [] }

pub zeros_there : (seg : SegId) (b n : ℕ) → get (zeros_in seg b n).pages seg.0 ≡ Some (replicate n (zero_page b))
zeros_there seg b n = get-insert nat_cmp_total empty seg.0 (replicate n (zero_page b)) seg.0
    ∙ ap (λ (t : Bool). cond t (Some (replicate n (zero_page b))) (get (empty {K = ℕ} {X = List Page} {R = nat_cmp}) seg.0)) (tied seg.0 seg.0 refl)

-- The answer

module _ (p q : Manager) (h : Option Held) (cache : CacheId) (seg : SegId) (n : ℕ) (nodes : List NodeId) (size : length nodes ≡ n) (made : IsMade p.caches q.caches cache (Some seg) OnSegment nodes) (some : 1 ≤ p.page_bytes) (has : HasSegment h seg p.page_bytes n)
    (followed : IsFollowed (machine_of p h) (forest_of p h)) (forest : forest_of q h ≡ make (with_pages (named_page h seg) (page_names cache 0 n)) (forest_of p h))
    (same : (q.page_bytes ≡ p.page_bytes) × (length q.store.frames.held ≡ length p.store.frames.held) × (q.actors ≡ p.actors) × (q.regions_made ≡ p.regions_made)) where
  abbrev c : Cache
  c = opened seg.0 (pages_for h seg n)

  added : IsAdded p q h cache (new_table (Some seg) nodes) (opened seg.0 (pages_for h seg n))
  added = record {
    number = made.number;
    tables = made.caches;
    shape = (refl, omega (arith, many h seg p.page_bytes n has, length-map nodes entry_for, size));
    forest = forest ∙ ap (λ es. make es (forest_of p h)) (nodes_for h seg p.page_bytes n some has cache);
    page_bytes = same.0;
    frames = same.1;
    actors = same.2;
    regions = same.3;
  }

  pub whole_opened : IfSome h (λ _. HasWholePages (machine_of p h)) → IfSome h (λ _. HasWholePages (machine_of q h))
  whole_opened old = whole_added p q h cache (new_table (Some seg) nodes) c added followed (whole_for h seg p.page_bytes n has) old

  number_by : (f : _) → cache.0 ≡ length (machine_by p f).caches + 1
  number_by f = omega (arith, made.number, shown_made f 1 p.caches.caches)

  module _ (nodes_whole : whole.IsWhole p.caches) (live : ℕ) (is : live ≡ sum_by page_count p.caches.caches) (few : length p.caches.caches < MOST_MADE) (room : live + n ≤ LIVE_PAGES) (free : IsOpened p.caches seg → ⊥) where
    outcome : OutcomeAt (segments_of h) (machine_of p h) (Some (forest_of p h)) (commands.OpenSegment seg) (Ok (replies.Cache cache)) (machine_of q h) no_counts
    outcome = go h refl
      where
        at_zeros : live + length (replicate n (zero_page p.page_bytes)) ≤ LIVE_PAGES
        at_zeros = omega (arith, room, length-replicate n (zero_page p.page_bytes))

        go : (g : Option Held) → h ≡ g → OutcomeAt (segments_of g) (machine_of p h) (Some (forest_of p h)) (commands.OpenSegment seg) (Ok (replies.Cache cache)) (machine_of q h) no_counts
        go (Some g) e =
            let at : HasSegment (Some g) seg p.page_bytes n = subst (λ k. HasSegment k seg p.page_bytes n) e has in
            ap (Rattle.vm_model.specs.Answering.open_of (machine_of p h) seg.0) (held_for g seg p.page_bytes n at)
            ∙ open_row p (forest_of p h) seg (λ k named. free (k, named)) few (pages_for (Some g) seg n) live is (omega (arith, room, many (Some g) seg p.page_bytes n at))
            ∙ ap (λ (k : ℕ). reply (replies.Cache (record { 0 = k })) (with_cache (machine_of p h) (opened seg.0 (pages_for (Some g) seg n)))) (sym (number_by (forest_of p h)))
            ∙ ap (λ k. reply (replies.Cache cache) (with_cache (machine_of p h) (opened seg.0 (pages_for k seg n)))) (sym e)
            ∙ ap (λ (m : Machine). reply (replies.Cache cache) m) (sym (machine_added p q h cache (new_table (Some seg) nodes) c added followed))
        go None e = record {
          whole = machine_by p (zeroed p h);
          whole_next = with_cache (machine_by p (zeroed p h)) (opened seg.0 (replicate n (zero_page p.page_bytes)));
          segments = zeros_in seg p.page_bytes n;
          whole_answer = Ok (replies.Cache cache);
          is = ap (machine_of p) e ∙ blank_of p (zeroed p h) nodes_whole;
          is_next = blank_added p q h cache (new_table (Some seg) nodes) c added followed (machine_by p (zeroed p h)) (opened seg.0 (replicate n (zero_page p.page_bytes)))
              (ap (machine_of p) e ∙ blank_of p (zeroed p h) nodes_whole)
              (ap (λ (ps : List Page). opened seg.0 ps) (blank_equal n (zero_page p.page_bytes) ∙ ap (λ k. pages_for k seg n) (sym e)));
          pages = zeroed_whole p h nodes_whole;
          alike = refl;
          outcome = ap (Rattle.vm_model.specs.Answering.open_of (machine_by p (zeroed p h)) seg.0) (zeros_there seg p.page_bytes n)
              ∙ open_row p (zeroed p h) seg (λ k named. free (k, named)) few (replicate n (zero_page p.page_bytes)) live is at_zeros
              ∙ ap (λ (k : ℕ). reply (replies.Cache (record { 0 = k })) (with_cache (machine_by p (zeroed p h)) (opened seg.0 (replicate n (zero_page p.page_bytes))))) (sym (number_by (zeroed p h)));
        }

    pub answer_opened : IfSome h (λ _. HasWholePages (machine_of p h)) → AnswerIs (state_at p h) (commands.OpenSegment seg) (Ok (replies.Cache cache)) [] no_counts (state_at q h)
    answer_opened old = record {
      outcome = outcome;
      forest = ap Some (forest_added p q h cache (new_table (Some seg) nodes) c added followed);
      reaches = tt;
      few = omega arith;
      pushed = no_push (machine_of p h) (segments_of h) (segments_of h) refl;
      synchronised = tt;
      whole = as_segments (HasWholePages (machine_of q h)) h (whole_opened old);
    }
