-- What pushes leave of the segments: they still back the caches of the machine, and those that name
-- no live cache are as before.
use Rattle.std.proofs.Common.{◌≡◌, ◌≢◌, ◌==◌, ℕ, suc, ◌-◌, Bool, true, false, cond, List, [], ◌∷◌, Option, Some, None, refl, sym, ap, subst, ◌∙◌, arith}
use Rattle.std.specs.Prelude.{IsSome, is_some, option_and_then, slice_get, unwrap_or}
use Rattle.std.specs.FinMap.{get, get-insert, insert}
use Rattle.std.specs.Cmp.{unsigned_tied}
use Rattle.std.specs.List.{AllByRecursion}
use Rattle.std.specs.Option.{option_map_or}
use Rattle.std.proofs.lemmas.Cmp.{nat_cmp_total}
use Rattle.std.proofs.lemmas.Bool.Decides.{nat_tests}
use Rattle.vm_ids.specs.Denying.{denies}
use Rattle.vm_ids.specs.Held.{Segments, put_segment_page}
use Rattle.vm_model.specs.Machine.{Cache, Machine, Page, cache_named, is_named_by, numbered}
use Rattle.vm_model.specs.Pushing.{MayPush, PushRule, page_named, segments_after}
use Rattle.vm_model.proofs.Parts.Lists.{is_there}
use Rattle.vm_model.proofs.Parts.ListParts.{at_some}
use Rattle.gmi_calls.specs.Backing.{AreBacked}
use Rattle.gmi_calls.proofs.Pushing.{IsNamedPage, still_backed}

-- The cache that a segment names

named_by : (o : Option ℕ) (seg : ℕ) → option_map_or (λ s. s == seg) o false ≡ true → o ≡ Some seg
named_by None seg e = absurd (cc e)
named_by (Some s) seg e = let same : s ≡ seg = grind (arith, nat_tests) in ap (λ (n : ℕ). Some n) same

-- where it stands
abbrev IsNamedAt : ℕ → List (Option Cache) → Cache → Type 0
IsNamedAt seg cs c = (i : ℕ) × (slice_get cs i ≡ Some (Some c)) × (c.segment ≡ Some seg)

named_at : (seg : ℕ) (cs : List (Option Cache)) (c : Cache) → cache_named cs seg ≡ Some c → IsNamedAt seg cs c
named_at seg [] c e = absurd (cc e)
named_at seg (o ∷ cs) c e = by (is_named_by seg o) refl e (named_at seg cs c)
  where
    by : (b : Bool) → is_named_by seg o ≡ b → cond b o (cache_named cs seg) ≡ Some c → (cache_named cs seg ≡ Some c → IsNamedAt seg cs c) → IsNamedAt seg (o ∷ cs) c
    by true named e behind = (0, ap (λ (x : Option Cache). Some x) e, named_by c.segment seg (ap (is_named_by seg) (sym e) ∙ named))
    by false named e behind = let r = behind e in (suc r.0, r.1, r.2)

-- its number
abbrev pub IsNumbered : ℕ → List (Option Cache) → Cache → Type 0
IsNumbered seg cs c = (n : ℕ) × (numbered cs n ≡ Some c) × (c.segment ≡ Some seg)

pub named_number : (seg : ℕ) (cs : List (Option Cache)) (c : Cache) → cache_named cs seg ≡ Some c → IsNumbered seg cs c
named_number seg cs c e =
    let at = named_at seg cs c e in
    let place : suc at.0 - 1 ≡ at.0 = omega arith in
    (suc at.0, at_some cs (suc at.0) (omega arith) ∙ ap (option_and_then (λ x. x)) (ap (slice_get cs) place ∙ at.1), at.2)

-- One push

other_number : (m n : ℕ) → m ≢ n → (m == n) ≡ false
other_number m n h = grind (arith, nat_tests)

got_other : (s : Segments) (seg x : ℕ) (pages : List Page) → x ≢ seg → get (insert s.pages seg pages) x ≡ get s.pages x
got_other s seg x pages other = get-insert nat_cmp_total s.pages seg pages x ∙ ap (λ (b : Bool). cond b (Some pages) (get s.pages x)) (unsigned_tied x seg ∙ other_number x seg other)

module _ (m : Machine) where
  -- the segments after a push
  abbrev with_push : ℕ × ℕ → Segments → Segments
  with_push p s = put_segment_page p.0 p.1 (unwrap_or (page_named m p.0 p.1) []) s

  -- what there is of the cache whose page is pushed
  some_cache : (seg page : ℕ) (o : Option Cache) → IsSome (option_and_then (λ (c : Cache). slice_get c.pages page) o) → (c : Cache) × (o ≡ Some c)
  some_cache seg page None some = absurd (cc some)
  some_cache seg page (Some c) some = (c, refl)

  backed_push : (p : ℕ × ℕ) (s : Segments) → IsSome (page_named m p.0 p.1) → denies s.denied p.0 p.1 ≡ false → AreBacked m.caches s → AreBacked m.caches (with_push p s)
  backed_push p s some allowed B =
      let c = some_cache p.0 p.1 (cache_named m.caches p.0) some in
      let n = named_number p.0 m.caches c.0 c.1 in
      let bytes = is_there (page_named m p.0 p.1) some in
      let at : slice_get c.0.pages p.1 ≡ Some bytes.0 = sym (ap (option_and_then (λ (c : Cache). slice_get c.pages p.1)) c.1) ∙ bytes.1 in
      let page : IsNamedPage m n.0 p.0 p.1 = record { cache = c.0; there = n.1; named = n.2; page = bytes.0; at = at } in
      subst (λ (o : Option Page). AreBacked m.caches (put_segment_page p.0 p.1 (unwrap_or o []) s)) (sym bytes.1)
      (still_backed m s n.0 p.0 p.1 page B allowed)

  other_push : (p : ℕ × ℕ) (s : Segments) (seg : ℕ) → IsSome (page_named m p.0 p.1) → is_some (cache_named m.caches seg) ≡ false → get (with_push p s).pages seg ≡ get s.pages seg
  other_push p s seg some free = got_other s p.0 seg _ (λ same.
      let c = some_cache p.0 p.1 (cache_named m.caches p.0) some in
      let wrong : true ≡ false = sym (ap (is_some) c.1) ∙ ap (λ (n : ℕ). is_some (cache_named m.caches n)) (sym same) ∙ free in
      cc wrong)

  -- What is told after pushes, where the segments were these.
  pub record AfterPushes (s : Segments) (after : Option Segments) : Type 0 where
    pub now : Segments
    pub told : after ≡ Some now
    pub backed : AreBacked m.caches now
    pub denied : now.denied ≡ s.denied
    pub others : (seg : ℕ) → is_some (cache_named m.caches seg) ≡ false → get now.pages seg ≡ get s.pages seg

  all_pushed : (before : Segments) (pushes : List (ℕ × ℕ)) (s : Segments) → s.denied ≡ before.denied → AreBacked m.caches s → AllByRecursion (MayPush m (Some before)) pushes → AfterPushes s (segments_after m pushes (Some s))
  all_pushed before [] s same B may = record { now = s; told = refl; backed = B; denied = refl; others = λ seg e. refl }
  all_pushed before (p ∷ ps) s same B may =
      let allowed : denies s.denied p.0 p.1 ≡ false = ap (λ (d : List (ℕ × ℕ)). denies d p.0 p.1) same ∙ may.0.1 in
      let rest = all_pushed before ps (with_push p s) same (backed_push p s may.0.0 allowed B) may.1 in
      record {
        now = rest.now;
        told = rest.told;
        backed = rest.backed;
        denied = rest.denied;
        others = λ seg free. rest.others seg free ∙ other_push p s seg may.0.0 free;
      }

  pub after_pushes : (s : Segments) (before after : Option Segments) (pushes : List (ℕ × ℕ)) → before ≡ Some s → AreBacked m.caches s → PushRule m before pushes after → AfterPushes s after
  after_pushes s before after pushes told B rule =
      let pushed : PushRule m (Some s) pushes after = subst (λ (o : Option Segments). PushRule m o pushes after) told rule in
      subst (AfterPushes s) (sym pushed.pushed) (all_pushed s pushes s refl B pushed.may)
