-- What is pushed to the segment of an image is what it holds.
use Rattle.std.proofs.Common.{◌≡◌, inl, inr, ℕ, Bool, cond, List, [], ◌∷◌, set, Option, Some, None, refl, sym, ap, ◌∙◌}
use Rattle.std.specs.Prelude.{IsSome, option_and_then, slice_get, unwrap_or}
use Rattle.std.specs.List.{AllByRecursion}
use Rattle.std.specs.FinMap.{FinMap, get, get-insert, insert, nat_cmp-IsAntisymmetric, same_map}
use Rattle.std.specs.Ordering.{eq_by_cmp, nat_cmp}
use Rattle.std.specs.Cmp.{nat_cmp_total, unsigned_tied}
use Rattle.std.proofs.lemmas.Bool.{cases_eq, eq-eqb, ne_eqb}
use Rattle.vm_model.proofs.Parts.Lists.{is_there}
use Rattle.interface_callers.proofs.Words.{Cache, Held, Machine, MayPush, Page, PushRule, Segments, cache_named, cache_of, page_named, put_segment_page, segments_after, segments_in, segments_of}
use Rattle.interface_callers.proofs.Naming.{after_none, named_cache}
use Rattle.interface_callers.proofs.Lists.{put_back}
use Rattle.mix_process.specs.Seen.{cache_pages}
use Rattle.mix_process.specs.Tying.{AreSynchronised, AreTied}
use Rattle.mix_process.specs.declared.mix.Image.{Image}
use Rattle.mix_process.specs.declared.process.Process.{Process}
use Rattle.mix_process.proofs.Reading.Seeing.{pages_there}

module _ (m : Machine) (processes : ℕ → Option Process) (spare : ℕ → Type 0) (images : List Image) (t : AreTied m processes spare images) where
  -- the segments hold what the images have
  abbrev Sync : Segments → Type 0
  Sync s = (i : ℕ) (image : Image) → slice_get images i ≡ Some image → get s.pages image.seg.0 ≡ Some (cache_pages m image.cache.0)

  -- the page that is pushed to a segment is the one that it holds
  pushed_one : (s : Segments) (seg page : ℕ) → IsSome (page_named m seg page) → Sync s → put_segment_page seg page (unwrap_or (page_named m seg page) []) s ≡ s
  pushed_one s seg page some sync = at (cache_named m.caches seg) refl
    where
      at : (o : Option Cache) → cache_named m.caches seg ≡ o → put_segment_page seg page (unwrap_or (page_named m seg page) []) s ≡ s
      at None e =
          let has = is_there (page_named m seg page) some in
          let wrong : option_and_then (λ (c : Cache). slice_get c.pages page) None ≡ Some has.0 = sym (ap (option_and_then (λ (c : Cache). slice_get c.pages page)) e) ∙ has.1 in
          absurd (cc wrong)
      at (Some c) e =
          let n = named_cache m seg c e in
          let i = t.no_more_images n.0 seg c n.1 n.2 in
          let d = t.images_there i.0 i.1 i.2 in
          let same : Some d.0 ≡ Some c = sym d.1 ∙ ap (cache_of m) i.3 ∙ n.1 in
          let is : d.0 ≡ c = cc in
          let segments : Some i.1.seg.0 ≡ Some seg = sym d.2 ∙ ap (λ (c : Cache). c.segment) is ∙ n.2 in
          let of_image : i.1.seg.0 ≡ seg = cc in
          let held : get s.pages seg ≡ Some c.pages = ap (get s.pages) (sym of_image) ∙ sync i.0 i.1 i.2 ∙ ap (λ (k : ℕ). Some (cache_pages m k)) i.3 ∙ ap (λ (pages : List Page). Some pages) (pages_there m n.0 c n.1) in
          let has = is_there (page_named m seg page) some in
          let had : slice_get c.pages page ≡ Some has.0 = sym (ap (option_and_then (λ (c : Cache). slice_get c.pages page)) e) ∙ has.1 in
          let put : set (unwrap_or (get s.pages seg) []) page (unwrap_or (page_named m seg page) []) ≡ c.pages =
          (λ j. set (unwrap_or (held j) []) page (unwrap_or (has.1 j) [])) ∙ put_back c.pages page has.0 had in
          ap (λ (pages : FinMap nat_cmp (List Page)). record s { pages = pages })
          (same_map nat_cmp_total nat_cmp-IsAntisymmetric (insert s.pages seg (set (unwrap_or (get s.pages seg) []) page (unwrap_or (page_named m seg page) []))) s.pages (λ q.
          get-insert nat_cmp_total s.pages seg (set (unwrap_or (get s.pages seg) []) page (unwrap_or (page_named m seg page) [])) q
          ∙ elim (cases_eq q seg) as (λ r. cond (eq_by_cmp nat_cmp q seg) (Some (set (unwrap_or (get s.pages seg) []) page (unwrap_or (page_named m seg page) []))) (get s.pages q) ≡ get s.pages q) [
            | inl e ↦ ap (λ (b : Bool). cond b (Some (set (unwrap_or (get s.pages seg) []) page (unwrap_or (page_named m seg page) []))) (get s.pages q)) (unsigned_tied q seg ∙ eq-eqb q seg e) ∙ ap (λ (pages : List Page). Some pages) put ∙ sym held ∙ ap (get s.pages) (sym e)
            | inr other ↦ ap (λ (b : Bool). cond b (Some (set (unwrap_or (get s.pages seg) []) page (unwrap_or (page_named m seg page) []))) (get s.pages q)) (unsigned_tied q seg ∙ ne_eqb q seg other)
          ]))

  pushed_all : (pushes : List (ℕ × ℕ)) (before s : Segments) → AllByRecursion (MayPush m (Some before)) pushes → Sync s → segments_after m pushes (Some s) ≡ Some s
  pushed_all [] before s may sync = refl
  pushed_all (p ∷ ps) before s may sync =
      ap (λ (s : Segments). segments_after m ps (Some s)) (pushed_one s p.0 p.1 may.0.0 sync) ∙ pushed_all ps before s may.1 sync

  -- What is pushed is what the segments hold, so they stay.
  pub segments_stay : (before : Option Held) (now : Option Segments) (pushes : List (ℕ × ℕ)) → PushRule m (segments_of before) pushes now → AreSynchronised m images before → now ≡ segments_of before
  segments_stay None now pushes rule sync = rule.pushed ∙ after_none m pushes
  segments_stay (Some h) now pushes rule sync = rule.pushed ∙ pushed_all pushes (segments_in h) (segments_in h) rule.may sync

  synchronised_as : (before now : Option Held) → segments_of now ≡ segments_of before → AreSynchronised m images before → AreSynchronised m images now
  synchronised_as before None same sync = tt
  synchronised_as None (Some g) same sync = absurd (cc same)
  synchronised_as (Some h) (Some g) same sync = let is : segments_in g ≡ segments_in h = cc same in
      λ i image e. ap (λ (s : Segments). get s.pages image.seg.0) is ∙ sync i image e

  -- after what was pushed, the segments still hold what the images have
  pub still_synchronised : (before now : Option Held) (pushes : List (ℕ × ℕ)) → PushRule m (segments_of before) pushes (segments_of now) → AreSynchronised m images before → AreSynchronised m images now
  still_synchronised before now pushes rule sync = synchronised_as before now (segments_stay before (segments_of now) pushes rule sync) sync
