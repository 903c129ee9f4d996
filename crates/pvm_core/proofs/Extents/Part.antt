-- The pages of a range that are taken from their segment.
use Rattle.std.proofs.Common.{◌≡◌, ℕ, ◌+◌, ◌-◌, ◌<◌, ◌≤◌, List, [], ◌∷◌, ◌++◌, length, map, take, drop, get_or, Option, Some, None, unwrap_or, refl, sym, ap, ◌∙◌, subst, arith}
use Rattle.std.specs.Prelude.{IfSome, option_and_then, option_map, slice_get}
use Rattle.std.specs.FinMap.{get}
use Rattle.std.specs.List.{All}
use Rattle.std.proofs.Math.Seq.{drop-append_seam, take-append_seam}
use Rattle.std.proofs.lemmas.List.{append_assoc, length-take-le}
use Rattle.std.proofs.lemmas.List.Elements.{All-get_or}
use Rattle.std.proofs.lemmas.List.FromFn.{get_or-map-range_with_len, length-map-range_with_len}
use Rattle.std.proofs.lemmas.Option.{get_or_from_slice_get, slice_get-get_or, slice_get_within}
use Rattle.vm_ids.specs.Held.{Held, page_of}
use Rattle.vm_ids.specs.declared.command.Extent.{Extent}
use Rattle.vm_ids.specs.declared.node_name.NodeName.{NodeName}
use Rattle.vm_ids.specs.declared.numbers.SegId.{SegId}
use Rattle.vm_ids.specs.Forest.Commands.{extent_names, firsts, page_name, page_names, pages_at}
use Rattle.local_cache.specs.Arena.{Arena, Table}
use Rattle.local_cache.specs.Whole.{segment_of, size_of}
use Rattle.residency.specs.declared.store.Store.{Store}
use Rattle.residency.specs.World.{page_at, world}
use Rattle.page_commands.specs.Homes.{named_page}
use Rattle.page_commands.specs.Readings.{held_pages, new_pages}
use Rattle.vm_model.specs.Answering.{held_part, overwrite}
use Rattle.vm_model.specs.Machine.{Page}
use Rattle.vm_model.specs.PageForest.{told}
use Rattle.pvm_core.specs.Manager.{AreFull, AreSized}
use Rattle.pvm_core.proofs.Extents.Rows.{IsExtent}
use Rattle.pvm_core.proofs.Opening.Answer.{told_some}
use Rattle.pvm_core.proofs.Opening.Forest.{named_pages, with_pages}
use Rattle.pvm_core.proofs.Opening.Told.{all_whole}

-- the part that was written stands where it was written
pub part_of_overwrite : {A : Type 0} (at : ℕ) (part whole : List A) → at ≤ length whole → take (length part) (drop at (overwrite at part whole)) ≡ part
part_of_overwrite at part whole low =
    let long : length (take at whole) ≡ at = length-take-le at whole low in
    ap (λ (k : ℕ). take (length part) (drop k (overwrite at part whole))) (sym long)
    ∙ ap (λ ys. take (length part) (drop (length (take at whole)) ys)) (append_assoc (take at whole) part (drop (at + length part) whole))
    ∙ ap (take (length part)) (drop-append_seam (take at whole) (part ++ drop (at + length part) whole))
    ∙ take-append_seam part (drop (at + length part) whole)

-- what the mapper holds of a segment
abbrev pub held_of : Option Held → SegId → Option (List Page)
held_of g seg = option_and_then (λ (k : Held). get k.segments seg.0) g

-- the part of a segment that a range stands for, as empty pages where it isn't told
abbrev pub part_for : Option Held → SegId → Extent → List Page
part_for g seg e = held_part (held_of g seg) e.first.0 e.pages

pub part_many : (g : Option Held) (seg : SegId) (e : Extent) → length (part_for g seg e) ≡ e.pages
part_many g seg e = length-map-range_with_len _ e.first.0 e.pages

pub with_firsts : {P : Type 0} (v : NodeName → P) (xs : List NodeName) → firsts (with_pages v xs) ≡ xs
with_firsts v [] = refl
with_firsts v (x ∷ xs) = ap (λ ys. x ∷ ys) (with_firsts v xs)

module _ (b : Arena) (s : Store) (g : Option Held) (e : Extent) (x : IsExtent b e) (bytes : ℕ) (some : 1 ≤ bytes) (sized : AreSized b g) (full : AreFull b bytes g) where
  abbrev seg : SegId
  seg = x.segment

  segment_is : segment_of b e.cache.0 ≡ Some (Some x.segment)
  segment_is = ap (option_map (λ (t : Table). t.segment)) x.there ∙ ap (λ (z : Option SegId). Some z) x.of

  size_is : size_of b e.cache.0 ≡ Some (length x.table.pages)
  size_is = ap (option_map (λ (t : Table). length t.pages)) x.there

  abbrev page_with : ℕ → Option (List Page) → Page
  page_with page held = unwrap_or (option_and_then (λ (ps : List Page). slice_get ps page) held) []

  part_at : (i : ℕ) (p : Page) → slice_get (part_for g x.segment e) i ≡ Some p → (page_with (e.first.0 + i) (held_of g x.segment) ≡ p) × (i < e.pages)
  part_at i p is =
      let low : i < e.pages = omega (arith, slice_get_within (part_for g x.segment e) i p is, part_many g x.segment e) in
      (sym (get_or-map-range_with_len (λ page. page_with page (held_of g x.segment)) e.first.0 e.pages i (e.first.0 + i) [] low refl) ∙ get_or_from_slice_get (part_for g x.segment e) i p [] is, low)

  -- where it is told, the segment has the pages of the range
  there_at : (k : Held) → g ≡ Some k → (page : ℕ) → page < e.first.0 + e.pages → (bs : Page) × (page_of k x.segment.0 page ≡ Some bs) × (length bs ≡ bytes)
  there_at k is page low = go (get k.segments x.segment.0) (subst (λ (o : Option Held). IfSome o (λ h. option_map (λ (ps : List Page). length ps) (get h.segments x.segment.0) ≡ size_of b e.cache.0)) is (sized e.cache.0 x.segment segment_is))
      (subst (λ (o : Option Held). IfSome o (λ h. IfSome (get h.segments x.segment.0) (All (λ (p : Page). length p ≡ bytes)))) is (full e.cache.0 x.segment segment_is))
    where
      go : (o : Option (List Page)) → option_map (λ (ps : List Page). length ps) o ≡ size_of b e.cache.0 → IfSome o (All (λ (p : Page). length p ≡ bytes)) → (bs : Page) × (option_and_then (λ (ps : List Page). slice_get ps page) o ≡ Some bs) × (length bs ≡ bytes)
      go None size whole = absurd (let none : None ≡ Some (length x.table.pages) = size ∙ size_is in cc none)
      go (Some ps) size whole =
          let two : Some (length ps) ≡ Some (length x.table.pages) = size ∙ size_is in
          let long : length ps ≡ length x.table.pages = cc two in
          let less : page < length ps = omega (arith, low, long, x.ends) in
          (get_or ps page [], slice_get-get_or ps page [] less, All-get_or (λ (p : Page). length p ≡ bytes) ps page [] less whole)

  -- each page of the part has all its bytes, where they are told
  pub part_whole : IfSome g (λ _. All (λ (p : Page). length p ≡ bytes) (part_for g x.segment e))
  part_whole = go g refl
    where
      go : (o : Option Held) → g ≡ o → IfSome o (λ _. All (λ (p : Page). length p ≡ bytes) (part_for g x.segment e))
      go None is = tt
      go (Some k) is = all_whole bytes (part_for g x.segment e) (λ i p at.
          let a = part_at i p at in
          let t = there_at k is (e.first.0 + i) (let low = a.1 in omega (arith, low)) in
          let same : t.0 ≡ p = sym (ap (λ o. unwrap_or o []) t.1) ∙ ap (λ (o : Option Held). page_with (e.first.0 + i) (held_of o x.segment)) (sym is) ∙ a.0 in
          ap (λ (q : Page). length q) (sym same) ∙ t.2)

  -- the page at a place of the range
  pub part_get : (k : Held) → g ≡ Some k → (page : ℕ) → e.first.0 ≤ page → page < e.first.0 + e.pages → slice_get (part_for g x.segment e) (page - e.first.0) ≡ page_of k x.segment.0 page
  part_get k is page first low =
      let i : ℕ = page - e.first.0 in
      let less : i < e.pages = omega (arith, first, low) in
      let t = there_at k is page low in
      slice_get-get_or (part_for g x.segment e) i [] (omega (arith, less, part_many g x.segment e))
      ∙ ap (λ (q : Page). Some q) (
      get_or-map-range_with_len (λ page. page_with page (held_of g x.segment)) e.first.0 e.pages i page [] less (omega (arith, first))
      ∙ ap (λ (o : Option Held). page_with page (held_of o x.segment)) is ∙ ap (λ (o : Option Page). unwrap_or o []) t.1)
      ∙ sym t.1

  -- and is what its segment holds of it
  page_is : (i : ℕ) (p : Page) → slice_get (part_for g x.segment e) i ≡ Some p → option_and_then (λ (k : Held). page_of k x.segment.0 (e.first.0 + i)) g ≡ told p
  page_is i p at = go g refl
    where
      a : (page_with (e.first.0 + i) (held_of g x.segment) ≡ p) × (i < e.pages)
      a = part_at i p at

      go : (o : Option Held) → g ≡ o → option_and_then (λ (k : Held). page_of k x.segment.0 (e.first.0 + i)) o ≡ told p
      go None is = ap told (ap (λ (o : Option Held). page_with (e.first.0 + i) (held_of o x.segment)) (sym is) ∙ a.0)
      go (Some k) is =
          let t = there_at k is (e.first.0 + i) (let low = a.1 in omega (arith, low)) in
          let same : t.0 ≡ p = sym (ap (λ o. unwrap_or o []) t.1) ∙ ap (λ (o : Option Held). page_with (e.first.0 + i) (held_of o x.segment)) (sym is) ∙ a.0 in
          t.1 ∙ ap Some same ∙ told_some bytes p (ap (λ (q : Page). length q) (sym same) ∙ t.2) some

  name_page : (page : ℕ) → named_page (world g None b s) (page_name e.cache page) ≡ option_and_then (λ (k : Held). page_of k x.segment.0 page) g
  name_page page =
      ap (λ (o : Option Table). option_and_then (λ h. option_and_then (page_at h) (option_map (λ segment. record { segment = segment; page = record { 0 = page } }) (option_and_then (λ (t : Table). t.segment) o))) g) x.there
      ∙ ap (λ (o : Option SegId). option_and_then (λ h. option_and_then (page_at h) (option_map (λ segment. record { segment = segment; page = record { 0 = page } }) o)) g) x.of

  -- so the pages of the segments, by their names, are this part
  pub part_nodes : held_pages (new_pages (world g None b s)) (extent_names e) ≡ pages_at e.cache e.first.0 (map told (part_for g x.segment e))
  part_nodes =
      ap (λ (n : ℕ). with_pages (named_page (world g None b s)) (page_names e.cache e.first.0 n)) (sym (part_many g x.segment e))
      ∙ named_pages (named_page (world g None b s)) e.cache e.first.0 (part_for g x.segment e) (λ i p at. name_page (e.first.0 + i) ∙ page_is i p at)
