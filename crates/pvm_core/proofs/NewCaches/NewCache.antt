-- The answers of making a cache.
use Rattle.std.proofs.Common.{◌≡◌, ℕ, zero, suc, ◌+◌, ◌<◌, ◌≤◌, Bool, true, false, List, [], ◌∷◌, ◌++◌, length, get_or, map, replicate, Option, Some, None, refl, sym, ap, ◌∙◌, subst, arith}
use Rattle.std.specs.Prelude.{◌||◌, Ok, IfSome, nat_le, nat_lt, option_map, sum_by}
use Rattle.std.proofs.lemmas.Bool.Decides.{nat_tests}
use Rattle.std.proofs.lemmas.List.{length-append, length-map, length-replicate, map_push}
use Rattle.std.proofs.lemmas.List.Elements.{All-append, All-cons, All-nil, All-replicate}
use Rattle.vm_ids.specs.Counting.{no_counts}
use Rattle.vm_ids.specs.Held.{Held, segments_of}
use Rattle.vm_ids.specs.declared.command.Command.TheVariants as commands
use Rattle.vm_ids.specs.declared.numbers.CacheId.{CacheId}
use Rattle.vm_ids.specs.declared.numbers.NodeId.{NodeId}
use Rattle.vm_ids.specs.declared.refusal.Refusal.TheVariants as refusals
use Rattle.vm_ids.specs.declared.reply.Reply.TheVariants as replies
use Rattle.vm_ids.specs.Forest.Commands.{firsts, make, page_names, pages_at}
use Rattle.local_cache.specs.Arena.{Arena, IsMade, Table, entry_for, new_table, page_count}
use Rattle.local_cache.specs.declared.own_state.OwnState.TheVariants.{Zero}
use Rattle.vm_model.specs.declared.limits.TheConstants.{LIVE_PAGES, MOST_MADE}
use Rattle.vm_model.specs.Answering.{make_temp_of, refuse, reply, temporary, unless}
use Rattle.vm_model.specs.Machine.{Cache, Machine, Page, cache_of, live_pages, zero_page}
use Rattle.vm_model.specs.Outcome.{HasWholePages, IsWhole, OutcomeAt, blank, blank_cache}
use Rattle.vm_model.specs.PageForest.{PageForest, nodes_of, told}
use Rattle.vm_model.specs.Laws.{IsFollowed}
use Rattle.vm_model.specs.Run.{AnswerIs}
use Rattle.vm_model.proofs.Forests.CachesFollowed.{made_followed}
use Rattle.vm_model.proofs.Parts.ListParts.{numbered_pushed}
use Rattle.pvm_core.specs.Manager.{Manager, caches_shown, forest_of, machine_by, machine_of, state_at}
use Rattle.pvm_core.proofs.Answering.Answered.{no_segments}
use Rattle.pvm_core.proofs.Answering.Reaching.{as_segments, no_push}
use Rattle.pvm_core.proofs.Meaning.Determined.{followed_is}
use Rattle.pvm_core.proofs.NewCaches.Making.{all_with, equal_pages}
use Rattle.pvm_core.proofs.Meaning.Shown.{shown_live, shown_made}
use Rattle.pvm_core.proofs.Meaning.Values.{blank_of, zeroed, zeroed_whole}
use Rattle.local_cache.proofs.NewCache.Whole.{pages_with}
use Rattle.local_cache.specs.Whole as whole
use Rattle.local_cache.proofs.Whole.LivePages.{node_page}
use Rattle.local_cache.specs.Reading as arena
use Rattle.vm_ids.specs.declared.node_name.NodeName.{NodeName}
use Rattle.vm_ids.specs.Forest.NameLists.{◌∈◌, Once}
use Rattle.vm_ids.specs.Forest.Laws.Commands.{AreFresh}
use Rattle.vm_ids.specs.Forest.Nodes.{IsNode, is_live}
use Rattle.pvm_core.proofs.Opening.Machine.{shape_at}
use Rattle.vm_ids.proofs.Forest.Laws.Ranges.{ranges_hold_pages_once, ranges_hold_their_pages}

or_true : (b : Bool) → (b || true) ≡ true
or_true true = refl
or_true false = refl

pub at_most : (a b : ℕ) → a ≤ b → nat_le a b ≡ true
at_most a b e = grind (arith, nat_tests)

pub not_most : (a b : ℕ) → b < a → nat_le a b ≡ false
not_most a b e = grind (arith, nat_tests)

pub less : (a b : ℕ) → a < b → nat_lt a b ≡ true
less a b e = grind (arith, nat_tests)

pub not_less : (a b : ℕ) → b ≤ a → nat_lt a b ≡ false
not_less a b e = grind (arith, nat_tests)

module _ (p : Manager) (f : PageForest) (n : ℕ) where
  count : length (machine_by p f).caches ≡ length p.caches.caches
  count = shown_made f 1 p.caches.caches

  total : live_pages (machine_by p f) ≡ sum_by page_count p.caches.caches
  total = shown_live f 1 p.caches.caches

  refused : (nat_le MOST_MADE (length (machine_by p f).caches) || nat_lt LIVE_PAGES (live_pages (machine_by p f) + n)) ≡ true → make_temp_of (machine_by p f) n ≡ refuse (machine_by p f) refusals.TooMany
  unfolding make_temp_of unless
  refused e = rw e refl

  pub many_made : MOST_MADE ≤ length p.caches.caches → make_temp_of (machine_by p f) n ≡ refuse (machine_by p f) refusals.TooMany
  many_made e = refused (ap (λ b. b || nat_lt LIVE_PAGES (live_pages (machine_by p f) + n)) (at_most MOST_MADE (length (machine_by p f).caches) (omega (arith, e, count))))

  pub many_live : (live : ℕ) → live ≡ sum_by page_count p.caches.caches → LIVE_PAGES < live + n → make_temp_of (machine_by p f) n ≡ refuse (machine_by p f) refusals.TooMany
  many_live live is e = refused (ap (λ b. nat_le MOST_MADE (length (machine_by p f).caches) || b) (less LIVE_PAGES (live_pages (machine_by p f) + n) (omega (arith, e, is, total))) ∙ or_true (nat_le MOST_MADE (length (machine_by p f).caches)))

  pub temp_row : (live : ℕ) → live ≡ sum_by page_count p.caches.caches → length p.caches.caches < MOST_MADE → live + n ≤ LIVE_PAGES
      → make_temp_of (machine_by p f) n ≡ reply (replies.Cache (record { 0 = length (machine_by p f).caches + 1 })) (record (machine_by p f) { caches = (machine_by p f).caches ++ Some (temporary p.page_bytes n) ∷ [] })
  unfolding make_temp_of unless
  temp_row live is few low =
      let a = not_most MOST_MADE (length (machine_by p f).caches) (omega (arith, few, count)) in
      let b = not_less LIVE_PAGES (live_pages (machine_by p f) + n) (omega (arith, low, is, total)) in
      rw (a, b) refl

-- The new cache as the machine has it

-- a page of zeros, or none where bytes aren't told
abbrev pub zeros_for : Option Held → ℕ → Page
zeros_for None b = []
zeros_for (Some h) b = zero_page b

abbrev pub cache_for : Option Held → ℕ → ℕ → Cache
cache_for h b n = record { segment = None; pages = replicate n (zeros_for h b) }

pub told_zeros : (h : Option Held) (b : ℕ) → 1 ≤ b → told (zeros_for h b) ≡ option_map (λ _. replicate b 0) h
told_zeros None b some = refl
told_zeros (Some h) zero some = absurd (omega (arith, some))
told_zeros (Some h) (suc b) some = refl

map_equal : {A B : Type 0} (g : A → B) (n : ℕ) (x : A) → map g (replicate n x) ≡ replicate n (g x)
map_equal g zero x = refl
map_equal g (suc n) x = ap (λ xs. g x ∷ xs) (map_equal g n x)

nodes_for : (h : Option Held) (b n : ℕ) (cache : CacheId) → 1 ≤ b → nodes_of cache.0 (Some (cache_for h b n)) ≡ all_with (option_map (λ _. replicate b 0) h) (page_names cache 0 n)
nodes_for h b n cache some =
    ap (pages_at cache 0) (map_equal told n (zeros_for h b) ∙ ap (replicate n) (told_zeros h b some)) ∙ equal_pages cache 0 n (option_map (λ _. replicate b 0) h)

module _ (p q : Manager) (h : Option Held) (cache : CacheId) (n : ℕ) (nodes : List NodeId) (size : length nodes ≡ n) (made : IsMade p.caches q.caches cache None Zero nodes) (some : 1 ≤ p.page_bytes) (followed : IsFollowed (machine_of p h) (forest_of p h))
    (forest : forest_of q h ≡ make (all_with (option_map (λ _. replicate p.page_bytes 0) h) (page_names cache 0 n)) (forest_of p h)) (same : (q.page_bytes ≡ p.page_bytes) × (length q.store.frames.held ≡ length p.store.frames.held) × (q.actors ≡ p.actors) × (q.regions_made ≡ p.regions_made)) where
  abbrev m : Machine
  m = machine_of p h

  number : cache.0 ≡ length (machine_of p h).caches + 1
  number = omega (arith, made.number, shown_made (forest_of p h) 1 p.caches.caches)

  rule : forest_of q h ≡ make (nodes_of cache.0 (Some (cache_for h p.page_bytes n))) (forest_of p h)
  rule = forest ∙ ap (λ es. make es (forest_of p h)) (sym (nodes_for h p.page_bytes n cache some))

  then : IsFollowed (record m { caches = m.caches ++ Some (cache_for h p.page_bytes n) ∷ [] }) (forest_of q h)
  then = subst (IsFollowed (record m { caches = m.caches ++ Some (cache_for h p.page_bytes n) ∷ [] })) (sym rule) (made_followed m (forest_of p h) cache.0 (cache_for h p.page_bytes n) number followed)

  tables : q.caches.caches ≡ p.caches.caches ++ Some (new_table None nodes) ∷ []
  tables = made.caches

  caches_are : caches_shown (forest_of q h) 1 (p.caches.caches ++ Some (new_table None nodes) ∷ []) ≡ m.caches ++ Some (cache_for h p.page_bytes n) ∷ []
  caches_are = followed_is (record m { caches = m.caches ++ Some (cache_for h p.page_bytes n) ∷ [] }) (forest_of q h) then (p.caches.caches ++ Some (new_table None nodes) ∷ [])
      (omega (arith, length-append m.caches (Some (cache_for h p.page_bytes n) ∷ []), length-append p.caches.caches (Some (new_table None nodes) ∷ []), shown_made (forest_of p h) 1 p.caches.caches))
      (λ k low. shape_at (forest_of p h) 1 p.caches.caches (Some (cache_for h p.page_bytes n)) (Some (new_table None nodes)) (refl, omega (arith, length-replicate n (zeros_for h p.page_bytes), length-map nodes entry_for, size)) k)

  -- the machine has one cache of zeros more
  pub machine_more : machine_of q h ≡ record (machine_of p h) { caches = (machine_of p h).caches ++ Some (cache_for h p.page_bytes n) ∷ [] }
  machine_more = λ i. record {
    page_bytes = same.0 i;
    frames = same.1 i;
    caches = (ap (caches_shown (forest_of q h) 1) tables ∙ caches_are) i;
    actors = same.2 i;
    regions_made = same.3 i;
  }

  pub forest_more : forest_of q h ≡ make (nodes_of (length (machine_of q h).caches) (cache_of (machine_of q h) (length (machine_of q h).caches))) (forest_of p h)
  forest_more = rule ∙ ap (λ es. make es (forest_of p h)) (sym (
      ap (λ (k : Machine). nodes_of (length k.caches) (cache_of k (length k.caches))) machine_more
      ∙ ap (λ (k : ℕ). nodes_of k (cache_of (record m { caches = m.caches ++ Some (cache_for h p.page_bytes n) ∷ [] }) k)) (let e : length (m.caches ++ Some (cache_for h p.page_bytes n) ∷ []) ≡ cache.0 = omega (arith, number, length-append m.caches (Some (cache_for h p.page_bytes n) ∷ [])) in e)
      ∙ ap (nodes_of cache.0) (numbered_pushed m.caches (Some (cache_for h p.page_bytes n)) cache.0 number)))

  -- and its pages are whole still
  pub whole_more : IfSome h (λ _. HasWholePages (machine_of p h)) → IfSome h (λ _. HasWholePages (machine_of q h))
  whole_more w = subst (λ (k : Machine). IfSome h (λ _. HasWholePages k)) (sym machine_more) (go h refl w)
    where
      go : (g : Option Held) → h ≡ g → IfSome g (λ _. HasWholePages (machine_of p h)) → IfSome g (λ _. HasWholePages (record m { caches = m.caches ++ Some (cache_for h p.page_bytes n) ∷ [] }))
      go None e w = tt
      go (Some g) e w = All-append (IsWhole p.page_bytes) m.caches (Some (cache_for h p.page_bytes n) ∷ []) w
          (All-cons (IsWhole p.page_bytes) (Some (cache_for h p.page_bytes n)) []
          (All-replicate (λ (x : Page). length x ≡ p.page_bytes) n (zeros_for h p.page_bytes) (ap (λ k. length (zeros_for k p.page_bytes)) e ∙ length-replicate p.page_bytes 0)) (All-nil (IsWhole p.page_bytes)))

  -- a mapper that tells nothing: the machine is the blank one of a machine with a cache of zeros
  -- more
  blank_more : (w : Machine) → machine_of p h ≡ blank w → h ≡ None → machine_of q h ≡ blank (record w { caches = w.caches ++ Some (temporary p.page_bytes n) ∷ [] })
  blank_more w is none = machine_more
      ∙ ap (λ (k : Machine). record k { caches = k.caches ++ Some (cache_for h p.page_bytes n) ∷ [] }) is
      ∙ ap (λ (c : Cache). record (blank w) { caches = (blank w).caches ++ Some c ∷ [] }) (ap (λ k. cache_for k p.page_bytes n) none ∙ ap (λ ps. record { segment = None; pages = ps }) (sym (map_equal (λ (x : Page). []) n (zero_page p.page_bytes))))
      ∙ ap (λ cs. record (blank w) { caches = cs }) (sym (map_push (option_map blank_cache) w.caches (Some (temporary p.page_bytes n))))

  pub outcome_more : whole.IsWhole p.caches → (live : ℕ) → live ≡ sum_by page_count p.caches.caches → length p.caches.caches < MOST_MADE → live + n ≤ LIVE_PAGES
      → OutcomeAt (segments_of h) (machine_of p h) (Some (forest_of p h)) (commands.MakeTemp n) (Ok (replies.Cache cache)) (machine_of q h) no_counts
  outcome_more nodes live is few low = go h refl
    where
      go : (g : Option Held) → h ≡ g → OutcomeAt (segments_of g) (machine_of p h) (Some (forest_of p h)) (commands.MakeTemp n) (Ok (replies.Cache cache)) (machine_of q h) no_counts
      go (Some g) e = temp_row p (forest_of p h) n live is few low
          ∙ (λ i. record { answer = Ok (replies.Cache (record { 0 = sym number i })); next = (ap (λ k. record m { caches = m.caches ++ Some (cache_for k p.page_bytes n) ∷ [] }) (sym e) ∙ sym machine_more) i })
      go None e = record {
        whole = machine_by p (zeroed p h);
        whole_next = record (machine_by p (zeroed p h)) { caches = (machine_by p (zeroed p h)).caches ++ Some (temporary p.page_bytes n) ∷ [] };
        segments = no_segments;
        whole_answer = Ok (replies.Cache cache);
        is = ap (machine_of p) e ∙ blank_of p (zeroed p h) nodes;
        is_next = blank_more (machine_by p (zeroed p h)) (ap (machine_of p) e ∙ blank_of p (zeroed p h) nodes) e;
        pages = zeroed_whole p h nodes;
        alike = refl;
        outcome = temp_row p (zeroed p h) n live is few low
            ∙ ap (λ (k : ℕ). reply (replies.Cache (record { 0 = k })) (record (machine_by p (zeroed p h)) { caches = (machine_by p (zeroed p h)).caches ++ Some (temporary p.page_bytes n) ∷ [] })) (let e : length (machine_by p (zeroed p h)).caches + 1 ≡ cache.0 = omega (arith, made.number, shown_made (zeroed p h) 1 p.caches.caches) in e);
      }

  pub answer_more : whole.IsWhole p.caches → (live : ℕ) → live ≡ sum_by page_count p.caches.caches → length p.caches.caches < MOST_MADE → live + n ≤ LIVE_PAGES → IfSome h (λ _. HasWholePages (machine_of p h))
      → AnswerIs (state_at p h) (commands.MakeTemp n) (Ok (replies.Cache cache)) [] no_counts (state_at q h)
  answer_more nodes live is few low whole = record {
    outcome = outcome_more nodes live is few low;
    forest = ap Some forest_more;
    reaches = refl;
    few = omega arith;
    pushed = no_push (machine_of p h) (segments_of h) (segments_of h) refl;
    synchronised = tt;
    whole = as_segments (HasWholePages (machine_of q h)) h (whole_more whole);
  }

-- the pages of a new cache have no nodes before
none_behind : (ts : List (Option Table)) → get_or ts (length ts) None ≡ None
none_behind [] = refl
none_behind (t ∷ ts) = none_behind ts

pub fresh_pages : (b d : Arena) (cache : CacheId) (n : ℕ) (nodes : List NodeId) → whole.IsWhole b → IsMade b d cache None Zero nodes → (x : NodeName) → x ∈ page_names cache 0 n → IsNode (arena.forest_of b) x → ⊥
fresh_pages b d cache n nodes w made x i is =
    let at = (ranges_hold_their_pages cache 0 n x).0 i in
    let p = node_page b w.sound cache (0 + at.0) (subst (IsNode (arena.forest_of b)) at.2 is) in
    let unmade : whole.size_of b cache.0 ≡ None = ap (whole.size_of b) (let e : cache.0 ≡ suc (length b.caches) = omega (arith, made.number) in e) ∙ ap (option_map (λ (t : Table). length t.pages)) (none_behind b.caches) in
    (let e : Some p.0 ≡ None = sym p.1 ∙ unmade in cc e)

zeros_named : (xs : List NodeName) → firsts (map (λ (x : NodeName). (x, Zero)) xs) ≡ xs
zeros_named [] = refl
zeros_named (x ∷ xs) = ap (λ ys. x ∷ ys) (zeros_named xs)

pub fresh_zeros : (b d : Arena) (cache : CacheId) (n : ℕ) (nodes : List NodeId) → whole.IsWhole b → IsMade b d cache None Zero nodes → AreFresh (arena.forest_of b) (pages_with Zero cache n)
fresh_zeros b d cache n nodes w made =
    let named : firsts (pages_with Zero cache n) ≡ page_names cache 0 n = zeros_named (page_names cache 0 n) in
    record {
      once = subst Once (sym named) (ranges_hold_pages_once cache 0 n);
      fresh = λ x i. (
          let j = subst (λ xs. x ∈ xs) named i in
          let at = (ranges_hold_their_pages cache 0 n x).0 j in
          (fresh_pages b d cache n nodes w made x j, ap is_live at.2));
    }
