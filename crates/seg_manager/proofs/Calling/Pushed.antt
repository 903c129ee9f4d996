-- What the segments hold after some pages were pushed to them.
use Rattle.std.proofs.Common.{◌≡◌, ℕ, Bool, true, false, cond, List, [], ◌∷◌, set, Option, Some, None, refl, sym, ap, subst, ◌∙◌, arith, inl, inr}
use Rattle.std.specs.Prelude.{IfSome, IsSome, is_some, option_and_then, slice_get, unwrap_or}
use Rattle.std.specs.List.{AllByRecursion}
use Rattle.std.specs.FinMap.{get, get-insert}
use Rattle.std.specs.Cmp.{nat_cmp_total, unsigned_tied}
use Rattle.std.proofs.lemmas.Bool.{cases_eq, ne_eqb}
use Rattle.vm_model.specs.Synchronised.{ArePushed}
use Rattle.vm_model.proofs.Parts.Lists.{is_there}
use Rattle.gmi_calls.proofs.Opening.{same_list}
use Rattle.gmi_calls.proofs.Pushing.{IsNamedPage, still_backed}
use Rattle.interface_callers.proofs.Words.{AreBacked, Backs, Cache, Machine, MayPush, Page, PushRule, Segments, cache_named, cache_of, denies, page_named, pages_in, put_segment_page, segment_of, segments_after}
use Rattle.interface_callers.proofs.Naming.{after_none, named_cache}

-- After some pushes the segments back the caches, and those without a cache are as before.
pub record Follow (m : Machine) (s t : Segments) : Type 0 where
  pub backed : AreBacked m.caches t
  pub denied : t.denied ≡ s.denied
  pub beside : (seg : ℕ) → is_some (cache_named m.caches seg) ≡ false → get t.pages seg ≡ get s.pages seg

named_there : (m : Machine) (seg q : ℕ) (page : Page) → page_named m seg q ≡ Some page → (n : ℕ) × (N : IsNamedPage m n seg q) × (N.page ≡ page)
named_there m seg q page e = by (cache_named m.caches seg) refl e
  where
    by : (o : Option Cache) → cache_named m.caches seg ≡ o → option_and_then (λ (c : Cache). slice_get c.pages q) o ≡ Some page → (n : ℕ) × (N : IsNamedPage m n seg q) × (N.page ≡ page)
    by None is e = absurd (cc e)
    by (Some c) is e = let at = named_cache m seg c is in let N : IsNamedPage m at.0 seg q = record { cache = c; there = at.1; named = at.2; page = page; at = e } in (at.0, N, refl)

module _ (m : Machine) (s : Segments) (p : ℕ × ℕ) (B : AreBacked m.caches s) (some : IsSome (page_named m p.0 p.1)) (allowed : MayPush m (Some s) p) where
  abbrev one : Segments
  one = put_segment_page p.0 p.1 (unwrap_or (page_named m p.0 p.1) []) s

  follow_one : Follow m s one
  follow_one =
      let page = is_there (page_named m p.0 p.1) some in
      let N = named_there m p.0 p.1 page.0 page.1 in
      record {
        backed = subst (λ (bytes : Page). AreBacked m.caches (put_segment_page p.0 p.1 bytes s)) (N.2 ∙ sym (ap (λ (o : Option Page). unwrap_or o []) page.1))
            (still_backed m s N.0 p.0 p.1 N.1 B allowed.1);
        denied = refl;
        beside = λ seg free. elim (cases_eq seg p.0) [
          | inl same ↦ absurd (let none : is_some (page_named m p.0 p.1) ≡ false = by_free (cache_named m.caches p.0) (ap (λ (x : ℕ). is_some (cache_named m.caches x)) (sym same) ∙ free) in
              let yes : is_some (page_named m p.0 p.1) ≡ true = ap is_some page.1 in cc (none, yes))
          | inr other ↦ get-insert nat_cmp_total s.pages p.0 (set (unwrap_or (get s.pages p.0) []) p.1 (unwrap_or (page_named m p.0 p.1) [])) seg
              ∙ ap (λ (b : Bool). cond b (Some (set (unwrap_or (get s.pages p.0) []) p.1 (unwrap_or (page_named m p.0 p.1) []))) (get s.pages seg)) (unsigned_tied seg p.0 ∙ ne_eqb seg p.0 other)
        ];
      }
    where
      by_free : (o : Option Cache) → is_some o ≡ false → is_some (option_and_then (λ (c : Cache). slice_get c.pages p.1) o) ≡ false
      by_free None e = refl
      by_free (Some c) e = absurd (cc e)

pub follow_none : (m : Machine) (s : Segments) → AreBacked m.caches s → Follow m s s
follow_none m s B = record { backed = B; denied = refl; beside = λ seg free. refl }

follow_then : (m : Machine) (s t u : Segments) → Follow m s t → Follow m t u → Follow m s u
follow_then m s t u f g = record {
  backed = g.backed;
  denied = g.denied ∙ f.denied;
  beside = λ seg free. g.beside seg free ∙ f.beside seg free;
}

pub pushes_follow : (m : Machine) (pushes : List (ℕ × ℕ)) (before s : Segments) → AllByRecursion (MayPush m (Some before)) pushes → s.denied ≡ before.denied → AreBacked m.caches s → (t : Segments) × (segments_after m pushes (Some s) ≡ Some t) × Follow m s t
pushes_follow m [] before s may same B = (s, refl, follow_none m s B)
pushes_follow m (p ∷ ps) before s may same B =
    let allowed : MayPush m (Some s) p = (may.0.0, ap (λ (d : List (ℕ × ℕ)). denies d p.0 p.1) same ∙ may.0.1) in
    let f = follow_one m s p B may.0.0 allowed in
    let rest = pushes_follow m ps before (one m s p B may.0.0 allowed) may.1 same f.backed in
    (rest.0, rest.1, follow_then m s (one m s p B may.0.0 allowed) rest.0 f rest.2)

-- The segments that are told then, where any are.
pub record Told (m : Machine) (before now : Option Segments) : Type 0 where
  pub none : before ≡ None → now ≡ None
  pub some : (s : Segments) → before ≡ Some s → (t : Segments) × (now ≡ Some t) × Follow m s t

pub told_pushed : (m : Machine) (before now : Option Segments) (pushes : List (ℕ × ℕ)) → PushRule m before pushes now → IfSome before (λ s. AreBacked m.caches s) → Told m before now
told_pushed m None now pushes rule B = record { none = λ e. rule.pushed ∙ after_none m pushes; some = λ s e. absurd (cc e) }
told_pushed m (Some s) now pushes rule B =
    let r = pushes_follow m pushes s s rule.may refl B in
    record {
      none = λ e. absurd (cc e);
      some = λ x e. (let same : s ≡ x = cc e in subst (λ (y : Segments). (t : Segments) × (now ≡ Some t) × Follow m y t) same (r.0, rule.pushed ∙ r.1, r.2));
    }

-- All pages of a cache were pushed to its segment.
pub all_pushed : (m : Machine) (t : Segments) (n seg : ℕ) (c : Cache) → AreBacked m.caches t → cache_of m n ≡ Some c → c.segment ≡ Some seg → ArePushed m (Some t) n 0 (pages_in (cache_of m n)) → get t.pages seg ≡ Some c.pages
all_pushed m t n seg c B there named pushed =
    let b : Backs t seg c = B.backed n seg c there named in
    let of : segment_of m n ≡ Some seg = ap (option_and_then (λ (c : Cache). c.segment)) there ∙ named in
    b.there ∙ ap (λ (ps : List Page). Some ps) (same_list b.pages c.pages b.many (λ i less.
    sym (ap (option_and_then (λ (ps : List Page). slice_get ps i)) b.there)
    ∙ pushed seg i of (omega arith) (omega (arith, less, b.many, ap pages_in there))
    ∙ ap (option_and_then (λ (c : Cache). slice_get c.pages i)) there))
