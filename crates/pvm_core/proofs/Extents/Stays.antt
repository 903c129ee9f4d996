-- What the segment of a cache holds stays while pages are pushed.
use Rattle.std.proofs.Common.{◌≡◌, ◌≢◌, ℕ, ◌<◌, Bool, cond, List, [], ◌∷◌, Option, Some, None, refl, sym, ap, ◌∙◌, subst, inl, inr}
use Rattle.std.specs.Prelude.{IsSome, option_and_then, slice_get, slice_set, unwrap_or}
use Rattle.std.specs.Cmp.{nat_cmp_total}
use Rattle.std.specs.FinMap.{get, get-insert}
use Rattle.std.specs.List.{AllByRecursion}
use Rattle.std.proofs.lemmas.Option.{slice_get_within}
use Rattle.vm_ids.specs.Held.{Segments, put_segment_page, segment_page}
use Rattle.vm_model.specs.Machine.{Machine, Page, segment_of}
use Rattle.vm_model.specs.PageForest.{page_in}
use Rattle.vm_model.specs.Pushing.{MayPush, PushRule, page_named, segments_after}
use Rattle.vm_model.specs.Synchronised.{ArePushed}
use Rattle.vm_model.proofs.Parts.Lists.{get_set_other, get_set_same}
use Rattle.local_cache.proofs.Nodes.Numbers.{apart, tied}
use Rattle.pvm_core.proofs.Homes.Sized.{same_or_not}

-- the pages of a segment, one of which is put
got_here : (s : Segments) (seg page : ℕ) (bytes : Page) → get (put_segment_page seg page bytes s).pages seg ≡ Some (slice_set (unwrap_or (get s.pages seg) []) page bytes)
got_here s seg page bytes =
    get-insert nat_cmp_total s.pages seg (slice_set (unwrap_or (get s.pages seg) []) page bytes) seg
    ∙ ap (λ (b : Bool). cond b (Some (slice_set (unwrap_or (get s.pages seg) []) page bytes)) (get s.pages seg)) (tied seg seg refl)

got_there : (s : Segments) (seg page : ℕ) (bytes : Page) (x : ℕ) → x ≢ seg → get (put_segment_page seg page bytes s).pages x ≡ get s.pages x
got_there s seg page bytes x other =
    get-insert nat_cmp_total s.pages seg (slice_set (unwrap_or (get s.pages seg) []) page bytes) x
    ∙ ap (λ (b : Bool). cond b (Some (slice_set (unwrap_or (get s.pages seg) []) page bytes)) (get s.pages x)) (apart x seg other)

-- a page that a segment holds is put there again
set_same : (o : Option (List Page)) (page : ℕ) (bytes : Page) → IsSome (option_and_then (λ ps. slice_get ps page) o) → slice_get (slice_set (unwrap_or o []) page bytes) page ≡ Some bytes
set_same None page bytes some = absurd (cc some)
set_same (Some ps) page bytes some = go (slice_get ps page) refl some
  where
    go : (o : Option Page) → slice_get ps page ≡ o → IsSome o → slice_get (slice_set ps page bytes) page ≡ Some bytes
    go None is some = absurd (cc some)
    go (Some old) is some = get_set_same ps page bytes (slice_get_within ps page old is)

set_other : (o : Option (List Page)) (page q : ℕ) (bytes : Page) → q ≢ page → (held : Page) → option_and_then (λ ps. slice_get ps q) o ≡ Some held → slice_get (slice_set (unwrap_or o []) page bytes) q ≡ option_and_then (λ ps. slice_get ps q) o
set_other None page q bytes other held is = absurd (cc is)
set_other (Some ps) page q bytes other held is = get_set_other ps page q bytes other

module _ (m : Machine) (n : ℕ) (found : (seg page : ℕ) → segment_of m n ≡ Some seg → page_named m seg page ≡ page_in m n page) (first past : ℕ) (there : (page : ℕ) → page < past → IsSome (page_in m n page)) where
  -- of the same page
  put_here : (s : Segments) (seg page : ℕ) → IsSome (segment_page s seg page) → (o : Option Page) → IsSome o → segment_page (put_segment_page seg page (unwrap_or o []) s) seg page ≡ o
  put_here s seg page some None is = absurd (cc is)
  put_here s seg page some (Some bytes) is = ap (option_and_then (λ (ps : List Page). slice_get ps page)) (got_here s seg page bytes) ∙ set_same (get s.pages seg) page bytes some

  -- of another one
  put_there : (s : Segments) (seg page : ℕ) (bytes : Page) (x q : ℕ) (held : Page) → (x ≡ seg → q ≢ page) → segment_page s x q ≡ Some held → segment_page (put_segment_page seg page bytes s) x q ≡ segment_page s x q
  put_there s seg page bytes x q held other is = elim (same_or_not x seg) [
    | inl e ↦
        ap (λ (k : ℕ). segment_page (put_segment_page seg page bytes s) k q) e
        ∙ ap (option_and_then (λ (ps : List Page). slice_get ps q)) (got_here s seg page bytes)
        ∙ set_other (get s.pages seg) page q bytes (other e) held (ap (λ (k : ℕ). segment_page s k q) (sym e) ∙ is)
        ∙ ap (λ (k : ℕ). segment_page s k q) (sym e)
    | inr ne ↦ ap (option_and_then (λ (ps : List Page). slice_get ps q)) (got_there s seg page bytes x ne)
  ]

  one_stays : (s : Segments) (seg page : ℕ) → IsSome (page_named m seg page) → ArePushed m (Some s) n first past → ArePushed m (Some (put_segment_page seg page (unwrap_or (page_named m seg page) []) s)) n first past
  one_stays s seg page some before x q named from below = by_page (page_in m n q) refl (there q below)
    where
      by_page : (o : Option Page) → page_in m n q ≡ o → IsSome o → segment_page (put_segment_page seg page (unwrap_or (page_named m seg page) []) s) x q ≡ page_in m n q
      by_page None is there = absurd (cc there)
      by_page (Some held) is there =
          let was : segment_page s x q ≡ Some held = before x q named from below ∙ is in
          elim (same_or_not x seg) [
            | inl e ↦ elim (same_or_not q page) [
              | inl same ↦
                  ap (λ (k : ℕ). segment_page (put_segment_page seg page (unwrap_or (page_named m seg page) []) s) k q) e
                  ∙ ap (segment_page (put_segment_page seg page (unwrap_or (page_named m seg page) []) s) seg) same
                  ∙ put_here s seg page (subst IsSome (sym (ap (λ (k : ℕ). segment_page s k page) (sym e) ∙ ap (segment_page s x) (sym same) ∙ was)) refl) (page_named m seg page) some
                  ∙ ap (λ (k : ℕ). page_named m k page) (sym e) ∙ ap (page_named m x) (sym same)
                  ∙ found x q named
              | inr ne ↦ put_there s seg page (unwrap_or (page_named m seg page) []) x q held (λ _. ne) was ∙ before x q named from below
            ]
            | inr ne ↦ put_there s seg page (unwrap_or (page_named m seg page) []) x q held (λ e. absurd (ne e)) was ∙ before x q named from below
          ]

  all_stay : (ps : List (ℕ × ℕ)) (t s : Segments) → AllByRecursion (MayPush m (Some t)) ps → ArePushed m (Some s) n first past → ArePushed m (segments_after m ps (Some s)) n first past
  all_stay [] t s may before = before
  all_stay (p ∷ ps) t s may before = all_stay ps t (put_segment_page p.0 p.1 (unwrap_or (page_named m p.0 p.1) []) s) may.1 (one_stays s p.0 p.1 may.0.0 before)

  none_told : (ps : List (ℕ × ℕ)) → segments_after m ps None ≡ None
  none_told [] = refl
  none_told (p ∷ ps) = none_told ps

  pub pushed_stay : (ps : List (ℕ × ℕ)) (s t : Option Segments) → PushRule m s ps t → ArePushed m s n first past → ArePushed m t n first past
  pushed_stay ps None t rule before = subst (λ (o : Option Segments). ArePushed m o n first past) (sym (rule.pushed ∙ none_told ps)) tt
  pushed_stay ps (Some s) t rule before = subst (λ (o : Option Segments). ArePushed m o n first past) (sym rule.pushed) (all_stay ps s s rule.may before)
