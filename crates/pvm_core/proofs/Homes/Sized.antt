-- Pushes leave segments as long as they were.
use Rattle.std.proofs.Common.{◌≡◌, ◌≢◌, ◌==◌, ◌⊎◌, ℕ, suc, Bool, true, false, cond, List, [], ◌∷◌, length, Option, Some, None, is_some, refl, sym, ap, ◌∙◌, subst, arith, length-set, inl, inr}
use Rattle.std.specs.Prelude.{option_map, option_and_then, slice_get, slice_set, unwrap_or, IsSome}
use Rattle.std.specs.Cmp.{nat_cmp_total}
use Rattle.std.specs.FinMap.{get, get-insert}
use Rattle.std.specs.List.{AllByRecursion}
use Rattle.std.proofs.lemmas.Bool.Decides.{nat_tests}
use Rattle.vm_ids.specs.Held.{Held, Segments, put_segment_page, segments_in, segments_of}
use Rattle.vm_ids.specs.declared.numbers.SegId.{SegId}
use Rattle.local_cache.specs.Arena.{Arena, Table}
use Rattle.local_cache.specs.Whole.{segment_of, size_of}
use Rattle.local_cache.proofs.Nodes.Numbers.{apart, tied}
use Rattle.vm_model.specs.Machine.{Cache, Machine, Page, cache_named}
use Rattle.vm_model.specs.Pushing.{MayPush, PushRule, page_named, segments_after}
use Rattle.pvm_core.specs.Manager.{AreApart, AreSized, Manager, forest_of, machine_of}
use Rattle.pvm_core.proofs.Homes.Named.{named_back}
use Rattle.pvm_core.proofs.Answering.Reaching.{still_told}

abbrev pub length_of : Segments → ℕ → Option ℕ
length_of s seg = option_map (λ (ps : List Page). length ps) (get s.pages seg)

longer : (o : Option (List Page)) (page : ℕ) (bytes : Page) → IsSome o → Some (length (slice_set (unwrap_or o []) page bytes)) ≡ option_map (λ (ps : List Page). length ps) o
longer None page bytes e = absurd (cc e)
longer (Some ps) page bytes e = ap Some (length-set ps page bytes)

pub same_or_not : (x y : ℕ) → (x ≡ y) ⊎ (x ≢ y)
same_or_not x y = go (x == y) refl
  where
    go : (b : Bool) → (x == y) ≡ b → (x ≡ y) ⊎ (x ≢ y)
    go true e = inl (grind (arith, nat_tests))
    go false e = inr (λ s. grind (arith, nat_tests))

-- a page that is put leaves the length of each segment
put_length : (s : Segments) (seg page : ℕ) (bytes : Page) → IsSome (get s.pages seg) → (x : ℕ) → length_of (put_segment_page seg page bytes s) x ≡ length_of s x
put_length s seg page bytes there x = elim (same_or_not x seg) [
  | inl e ↦ (
      let t = tied x seg e in
      ap (option_map (λ (ps : List Page). length ps)) (get-insert nat_cmp_total s.pages seg (slice_set (unwrap_or (get s.pages seg) []) page bytes) x)
      ∙ ap (λ (b : Bool). option_map (λ (ps : List Page). length ps) (cond b (Some (slice_set (unwrap_or (get s.pages seg) []) page bytes)) (get s.pages x))) t
      ∙ longer (get s.pages seg) page bytes there ∙ ap (length_of s) (sym e))
  | inr ne ↦ (
      let t = apart x seg ne in
      ap (option_map (λ (ps : List Page). length ps)) (get-insert nat_cmp_total s.pages seg (slice_set (unwrap_or (get s.pages seg) []) page bytes) x)
      ∙ ap (λ (b : Bool). option_map (λ (ps : List Page). length ps) (cond b (Some (slice_set (unwrap_or (get s.pages seg) []) page bytes)) (get s.pages x))) t)
]

there_by : (o : Option (List Page)) → IsSome o → IsSome (option_map (λ (ps : List Page). length ps) o)
there_by None e = e
there_by (Some ps) e = refl

there_from : (o : Option (List Page)) → IsSome (option_map (λ (ps : List Page). length ps) o) → IsSome o
there_from None e = e
there_from (Some ps) e = refl

-- the segments of these pushes are there
abbrev AreThere : Segments → List (ℕ × ℕ) → Type 0
AreThere s ps = AllByRecursion (λ (p : ℕ × ℕ). IsSome (get s.pages p.0)) ps

there_still : (s t : Segments) → ((x : ℕ) → length_of t x ≡ length_of s x) → (ps : List (ℕ × ℕ)) → AreThere s ps → AreThere t ps
there_still s t same [] all = tt
there_still s t same (p ∷ ps) all = (there_from (get t.pages p.0) (subst IsSome (sym (same p.0)) (there_by (get s.pages p.0) all.0)), there_still s t same ps all.1)

pub after_length : (m : Machine) (ps : List (ℕ × ℕ)) (s : Segments) → AreThere s ps → (x : ℕ) → option_map (λ (s : Segments). length_of s x) (segments_after m ps (Some s)) ≡ Some (length_of s x)
after_length m [] s all x = refl
after_length m (p ∷ ps) s all x =
    let bytes = unwrap_or (page_named m p.0 p.1) [] in
    let t = put_segment_page p.0 p.1 bytes s in
    let same : (x : ℕ) → length_of t x ≡ length_of s x = put_length s p.0 p.1 bytes all.0 in
    after_length m ps t (there_still s t same ps all.1) x ∙ ap Some (same x)

-- In a manager

named_there : (p : Manager) (h : Held) → AreSized p.caches (Some h) → (seg page : ℕ) → IsSome (page_named (machine_of p (Some h)) seg page) → IsSome (get h.segments seg)
named_there p h sized seg page some = by_cache (cache_named (machine_of p (Some h)).caches seg) refl some
  where
    by_cache : (o : Option Cache) → cache_named (machine_of p (Some h)).caches seg ≡ o → IsSome (option_and_then (λ (c : Cache). slice_get c.pages page) o) → IsSome (get h.segments seg)
    by_cache None e some = absurd (cc some)
    by_cache (Some c) e some =
        let b = named_back (forest_of p (Some h)) 1 p.caches.caches seg c e in
        let size = sized (suc b.0) (record { 0 = seg }) (ap (option_map (λ (t : Table). t.segment)) b.2 ∙ ap (λ (z : Option SegId). Some z) b.3) in
        there_from (get h.segments seg) (subst IsSome (sym size) (ap (λ (o : Option Table). is_some (option_map (λ (t : Table). length t.pages) o)) b.2))

all_there : (p : Manager) (h : Held) → AreSized p.caches (Some h) → (ps : List (ℕ × ℕ)) → AllByRecursion (MayPush (machine_of p (Some h)) (segments_of (Some h))) ps → AreThere (segments_in h) ps
all_there p h sized [] all = tt
all_there p h sized (x ∷ ps) all = (named_there p h sized x.0 x.1 all.0.0, all_there p h sized ps all.1)

-- what speaks of the segments and the sizes of caches alone
pub sized_same : (a b : Arena) (h : Option Held) → ((cache : ℕ) → segment_of b cache ≡ segment_of a cache) → ((cache : ℕ) → size_of b cache ≡ size_of a cache) → AreSized a h → AreSized b h
sized_same a b None segments sizes sized cache segment of = tt
sized_same a b (Some h) segments sizes sized cache segment of = sized cache segment (sym (segments cache) ∙ of) ∙ sym (sizes cache)

pub apart_same : (a b : Arena) → ((cache : ℕ) → segment_of b cache ≡ segment_of a cache) → AreApart a → AreApart b
apart_same a b segments apart cache other segment one two = apart cache other segment (sym (segments cache) ∙ one) (sym (segments other) ∙ two)

-- segments are as long as the caches that they name still
pub sized_after : (p : Manager) (b : Arena) (h g : Option Held) → ((cache : ℕ) → segment_of b cache ≡ segment_of p.caches cache) → ((cache : ℕ) → size_of b cache ≡ size_of p.caches cache)
    → (ps : List (ℕ × ℕ)) → PushRule (machine_of p h) (segments_of h) ps (segments_of g) → AreSized p.caches h → AreSized b g
sized_after p b h None segments sizes ps rule sized cache segment of = tt
sized_after p b None (Some g) segments sizes ps rule sized cache segment of = absurd (let e = ap is_some rule.pushed ∙ still_told (machine_of p None) ps None in cc e)
sized_after p b (Some h) (Some g) segments sizes ps rule sized cache segment of =
    let long = ap (option_map (λ (s : Segments). length_of s segment.0)) rule.pushed ∙ after_length (machine_of p (Some h)) ps (segments_in h) (all_there p h sized ps rule.may) segment.0 in
    let same : length_of (segments_in g) segment.0 ≡ length_of (segments_in h) segment.0 = cc long in
    same ∙ sized cache segment (sym (segments cache) ∙ of) ∙ sym (sizes cache)
