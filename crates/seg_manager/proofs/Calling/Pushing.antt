-- What is pushed to segments in the course of a call, of the machine below as it was before.
use Rattle.std.proofs.Common.{◌≡◌, ◌==◌, ℕ, ◌≤◌, Bool, true, false, cond, List, [], ◌∷◌, ◌++◌, length, map, Option, Some, None, refl, sym, ap, subst, ◌∙◌, arith}
use Rattle.std.specs.Prelude.{IfSome, IsSome, option_and_then, option_map, slice_get, unwrap_or}
use Rattle.std.specs.List.{AllByRecursion, list_any}
use Rattle.std.specs.Option.{option_map_or}
use Rattle.std.proofs.lemmas.List.{length-append}
use Rattle.vm_model.proofs.Parts.Pairs.{each_append}
use Rattle.interface_callers.proofs.Words.{Answer, Cache, Command, GhostsOfGmi, GhostsOfMapper, Machine, MapperCall, MapperCounts, MayPush, Page, PushRule, Segments, cache_named, counts_sum, denies, is_named_by, meanings_of, page_named, put_segment_page, segments_after, segments_of}
use Rattle.interface_callers.proofs.Naming.{after_none, named_by}
use Rattle.seg_manager.specs.Keeping.{but_for, is_of_any, without}
use Rattle.seg_manager.specs.Seen.{references_seen, whole_of}
use Rattle.seg_manager.specs.Stepping.{Pushed, State}
use Rattle.seg_manager.specs.Thinning.{Pushes}
use Rattle.seg_manager.specs.Tying.{CanCall}
use Rattle.seg_manager.specs.declared.manager.SegManager.{SegManager}
use Rattle.seg_manager.specs.declared.tables.Named.{Named}
use Rattle.seg_manager.proofs.Calling.CallAgain.{call_is}
use Rattle.seg_manager.proofs.Seeing.WhichGo.{Caches}

-- Where caches are gone, those that are left have the pages that they had.

abbrev pub HasPages : Machine → Machine → Type 0
HasPages m n = (seg page : ℕ) → IsSome (page_named n seg page) → page_named n seg page ≡ page_named m seg page

pub same_pages : (m : Machine) → HasPages m m
same_pages m seg page some = refl

left_named : (segs : List ℕ) (seg : ℕ) (cs : Caches) → cache_named (map (but_for segs) cs) seg ≡ cond (list_any (λ s. s == seg) segs) None (cache_named cs seg)
left_named segs seg [] = by (list_any (λ s. s == seg) segs)
  where
    by : (b : Bool) → (let o : Option Cache = None in o) ≡ cond b None None
    by true = refl
    by false = refl
left_named segs seg (None ∷ cs) = left_named segs seg cs
left_named segs seg (Some c ∷ cs) = at (is_named_by seg (Some c)) refl (left_named segs seg cs)
  where
    gone : Bool
    gone = list_any (λ s. s == seg) segs

    mine : (b : Bool) → cache_named (map (but_for segs) cs) seg ≡ cond gone None (cache_named cs seg) → gone ≡ b → is_named_by seg (Some c) ≡ true → cache_named (cond b None (Some c) ∷ map (but_for segs) cs) seg ≡ cond b None (Some c)
    mine true rest e named = rest ∙ ap (λ (x : Bool). cond x None (cache_named cs seg)) e
    mine false rest e named = ap (λ (x : Bool). cond x (Some c) (cache_named (map (but_for segs) cs) seg)) named

    other : (b : Bool) → is_named_by seg (Some c) ≡ false → cache_named (cond b None (Some c) ∷ map (but_for segs) cs) seg ≡ cache_named (map (but_for segs) cs) seg
    other true named = refl
    other false named = ap (λ (x : Bool). cond x (Some c) (cache_named (map (but_for segs) cs) seg)) named

    at : (b : Bool) → is_named_by seg (Some c) ≡ b → cache_named (map (but_for segs) cs) seg ≡ cond gone None (cache_named cs seg) → cache_named (map (but_for segs) (Some c ∷ cs)) seg ≡ cond gone None (cache_named (Some c ∷ cs) seg)
    at true named rest =
        let of : is_of_any segs c ≡ gone = ap (λ (o : Option ℕ). option_map_or (λ x. list_any (λ s. s == x) segs) o false) (named_by c.segment seg named) in
        ap (λ (x : Bool). cache_named (cond x None (Some c) ∷ map (but_for segs) cs) seg) of
        ∙ mine gone rest refl named
        ∙ sym (ap (λ (x : Bool). cond gone None (cond x (Some c) (cache_named cs seg))) named)
    at false named rest =
        other (is_of_any segs c) named
        ∙ rest
        ∙ sym (ap (λ (x : Bool). cond gone None (cond x (Some c) (cache_named cs seg))) named)

pub pages_left : (segs : List ℕ) (m : Machine) → HasPages m (without segs m)
pages_left segs m seg page some = by (list_any (λ s. s == seg) segs) refl
  where
    of : Option Cache → Option Page
    of o = option_and_then (λ (c : Cache). slice_get c.pages page) o

    by : (b : Bool) → list_any (λ s. s == seg) segs ≡ b → page_named (without segs m) seg page ≡ page_named m seg page
    by true e =
        let none : page_named (without segs m) seg page ≡ None = ap of (left_named segs seg m.caches ∙ ap (λ (x : Bool). cond x None (cache_named m.caches seg)) e) in
        absurd (let wrong = subst IsSome none some in cc wrong)
    by false e = ap of (left_named segs seg m.caches ∙ ap (λ (x : Bool). cond x None (cache_named m.caches seg)) e)

-- Pushes one after the other

after_some : (m : Machine) (ps : List (ℕ × ℕ)) (s : Segments) → (t : Segments) × (segments_after m ps (Some s) ≡ Some t) × (t.denied ≡ s.denied)
after_some m [] s = (s, refl, refl)
after_some m (p ∷ ps) s = after_some m ps (put_segment_page p.0 p.1 (unwrap_or (page_named m p.0 p.1) []) s)

after_both : (m : Machine) (ps qs : List (ℕ × ℕ)) (s : Option Segments) → segments_after m (ps ++ qs) s ≡ segments_after m qs (segments_after m ps s)
after_both m [] qs s = refl
after_both m (p ∷ ps) qs s = after_both m ps qs (option_map (put_segment_page p.0 p.1 (unwrap_or (page_named m p.0 p.1) [])) s)

module _ (m n : Machine) (has : HasPages m n) where
  may_still : (s t : Segments) → t.denied ≡ s.denied → (ps : List (ℕ × ℕ)) → AllByRecursion (MayPush n (Some t)) ps → AllByRecursion (MayPush m (Some s)) ps
  may_still s t same [] h = tt
  may_still s t same (p ∷ ps) h = (
    (subst IsSome (has p.0 p.1 h.0.0) h.0.0, ap (λ (d : List (ℕ × ℕ)). denies d p.0 p.1) (sym same) ∙ h.0.1),
    may_still s t same ps h.1,
  )

  after_still : (t : Segments) (ps : List (ℕ × ℕ)) (o : Option Segments) → AllByRecursion (MayPush n (Some t)) ps → segments_after n ps o ≡ segments_after m ps o
  after_still t [] o h = refl
  after_still t (p ∷ ps) o h =
      ap (λ (x : Option Page). segments_after n ps (option_map (put_segment_page p.0 p.1 (unwrap_or x [])) o)) (has p.0 p.1 h.0.0)
      ∙ after_still t ps (option_map (put_segment_page p.0 p.1 (unwrap_or (page_named m p.0 p.1) [])) o) h.1

  pub rule_then : (first was now : Option Segments) (ps qs : List (ℕ × ℕ)) → PushRule m first ps was → PushRule n was qs now → PushRule m first (ps ++ qs) now
  rule_then None was now ps qs f g =
      let none : was ≡ None = f.pushed ∙ after_none m ps in
      record {
        may = any (ps ++ qs);
        pushed = g.pushed ∙ ap (segments_after n qs) none ∙ after_none n qs ∙ sym (after_none m (ps ++ qs));
      }
    where
      any : (xs : List (ℕ × ℕ)) → AllByRecursion (MayPush m None) xs
      any [] = tt
      any (x ∷ xs) = (tt, any xs)
  rule_then (Some s) was now ps qs f g =
      let t = after_some m ps s in
      let is : was ≡ Some t.0 = f.pushed ∙ t.1 in
      let may = subst (λ (o : Option Segments). AllByRecursion (MayPush n o) qs) is g.may in
      record {
        may = each_append (MayPush m (Some s)) ps qs f.may (may_still s t.0 t.2 qs may);
        pushed = g.pushed ∙ after_still t.0 qs was may ∙ ap (segments_after m qs) f.pushed ∙ sym (after_both m ps qs (Some s));
      }

-- What is pushed in an answer

pub pushed_by : (was now : Option Segments) (m : Machine) (cs : List Named) (pushes : List (ℕ × ℕ)) (rises : MapperCounts) → length pushes ≤ rises.pushes → PushRule m was pushes now → (before after : State) → before.references ≡ references_seen m was cs → before.segments ≡ was → after.segments ≡ now → IfSome now (λ (h : Segments). Pushed before rises after)
pushed_by was None m cs pushes rises few rule before after x y z = tt
pushed_by None (Some t) m cs pushes rises few rule before after x y z = absurd (let wrong : Some t ≡ None = rule.pushed ∙ after_none m pushes in cc wrong)
pushed_by (Some s) (Some t) m cs pushes rises few rule before after x y z = record {
  all = whole_of m (Some s) cs;
  pushes = pushes;
  left = sym x;
  few = few;
  rule = subst (λ (o : Option Segments). PushRule m before.segments pushes o) (sym z) (subst (λ (o : Option Segments). PushRule m o pushes (Some t)) (sym y) rule);
}

module _ {Manager X Chooser : Type 0} (M : GhostsOfMapper X) (G : GhostsOfGmi Manager X Chooser) where
  pub pushes_none : (before : X) (old : SegManager Manager) (rises : MapperCounts) → Pushes M G before old before rises
  pushes_none before old rises = record { pushes = []; few = omega arith; rule = record { may = tt; pushed = refl } }

  pub pushes_call : (manager : SegManager Manager) (gmi : Manager) (before after : X) (c : Command) (a : Answer) (can : CanCall G manager (M.held before) (M.page_bytes before)) (call : MapperCall M (meanings_of G) before manager.gmi c a after gmi)
      → Pushes M G before manager after (call_is M G manager gmi before after c a can call).rises
  pushes_call manager gmi before after c a can call = record {
    pushes = (call_is M G manager gmi before after c a can call).pushes;
    few = (call_is M G manager gmi before after c a can call).is.few;
    rule = (call_is M G manager gmi before after c a can call).is.pushed;
  }

  pub pushes_then : (before middle after : X) (old by : SegManager Manager) (r s : MapperCounts) → HasPages (G.machine old.gmi (M.held before)) (G.machine by.gmi (M.held middle)) → Pushes M G before old middle r → Pushes M G middle by after s → Pushes M G before old after (counts_sum r s)
  pushes_then before middle after old by r s has f g = record {
    pushes = f.pushes ++ g.pushes;
    few = omega (arith, length-append f.pushes g.pushes, f.few, g.few);
    rule = rule_then (G.machine old.gmi (M.held before)) (G.machine by.gmi (M.held middle)) has (segments_of (M.held before)) (segments_of (M.held middle)) (segments_of (M.held after)) f.pushes g.pushes f.rule g.rule;
  }

  -- what is left of a machine has its pages
  pub pages_of : (before middle : X) (old by : SegManager Manager) (segs : List ℕ) → G.machine by.gmi (M.held middle) ≡ without segs (G.machine old.gmi (M.held before)) → HasPages (G.machine old.gmi (M.held before)) (G.machine by.gmi (M.held middle))
  pages_of before middle old by segs is = subst (HasPages (G.machine old.gmi (M.held before))) (sym is) (pages_left segs (G.machine old.gmi (M.held before)))
