-- Pages of a cache are pushed to the segment that names it.
use Rattle.std.proofs.Common.{◌≡◌, ◌≢◌, ◌==◌, ℕ, ◌+◌, ◌<◌, ◌≤◌, Bool, true, false, cond, List, [], ◌∷◌, ◌++◌, get_or, length, set, Option, Some, None, refl, sym, ap, subst, ◌∙◌, arith, inl, inr}
use Rattle.std.specs.Prelude.{All, IfSome, IsSome, OnErr, OnOk, Result, Ok, Err, not, option_and_then, option_map, slice_get, unwrap_or}
use Rattle.std.specs.FinMap.{get, get-insert, insert}
use Rattle.std.specs.List.{AllByRecursion}
use Rattle.std.specs.Cmp.{unsigned_tied}
use Rattle.std.proofs.lemmas.Cmp.{nat_cmp_total}
use Rattle.std.proofs.lemmas.Bool.{cases_eq}
use Rattle.std.proofs.lemmas.Bool.Decides.{nat_tests}
use Rattle.std.proofs.lemmas.List.{length-append, length-set}
use Rattle.std.proofs.lemmas.List.Elements.{All-get_or}
use Rattle.std.proofs.lemmas.Option.{get_or_from_slice_get, slice_get-get_or, slice_get_within}
use Rattle.vm_ids.specs.Counting.{MapperCounts, Rise, counts_sum, no_counts}
use Rattle.vm_ids.specs.Denying.{denies}
use Rattle.vm_ids.specs.Held.{Held, Segments, put_segment_page, segment_page, segments_in, segments_of, with_page}
use Rattle.vm_model.specs.Machine.{Machine, Cache, Page, cache_of, pages_in, segment_of}
use Rattle.vm_model.specs.Outcome.{HasWholePages, IsWhole}
use Rattle.vm_model.specs.PageForest.{page_in}
use Rattle.vm_model.specs.Pushing.{MayPush, PushRule, page_named, segments_after}
use Rattle.vm_model.specs.Synchronised.{ArePushed}
use Rattle.vm_model.proofs.Parts.Lists.{get_set_other, get_set_same}
use Rattle.vm_model.proofs.Parts.Naming.{segment_cache}
use Rattle.vm_model.proofs.Machines.Sound.{numbered-all}
use Rattle.gmi_calls.specs.Backing.{AreBacked, Backs, IsReady}
use Rattle.gmi_calls.specs.Calling.{Fits}
use Rattle.gmi_calls.specs.Reaching.{Pushed}
use Rattle.gmi_calls.proofs.Asking.{denied_is, granted_is}
use Rattle.gmi_calls.proofs.BackedCaches.{named_is}
use Rattle.gmi_calls.proofs.Rising.{one_call, rise_then}

-- The cache that is pushed

-- what is known of a page of a cache that a segment names
pub record IsNamedPage (m : Machine) (n seg q : ℕ) : Type 0 where
  pub cache : Cache
  pub there : cache_of m n ≡ Some cache
  pub named : cache.segment ≡ Some seg
  pub page : Page
  pub at : slice_get cache.pages q ≡ Some page

pub named_page : (m : Machine) (n seg q : ℕ) → segment_of m n ≡ Some seg → q < pages_in (cache_of m n) → IsNamedPage m n seg q
named_page m n seg q e less =
    let c = segment_cache m n seg e in
    record {
      cache = c.0;
      there = c.1;
      named = c.2;
      page = get_or c.0.pages q [];
      at = slice_get-get_or c.0.pages q [] (omega (arith, less, ap pages_in c.1));
    }

-- the same of a page whose bytes are known
pub bytes_at : (o : Option Cache) (seg q : ℕ) (bytes : Page) → option_and_then (λ (c : Cache). c.segment) o ≡ Some seg → option_and_then (λ (c : Cache). slice_get c.pages q) o ≡ Some bytes → (c : Cache) × (o ≡ Some c) × (c.segment ≡ Some seg) × (slice_get c.pages q ≡ Some bytes)
bytes_at None seg q bytes e f = absurd (cc e)
bytes_at (Some c) seg q bytes e f = (c, refl, e, f)

abbrev pub named_bytes : (m : Machine) (n seg q : ℕ) (bytes : Page) → segment_of m n ≡ Some seg → page_in m n q ≡ Some bytes → IsNamedPage m n seg q
named_bytes m n seg q bytes e f =
    let P = bytes_at (cache_of m n) seg q bytes e f in
    record { cache = P.0; there = P.1; named = P.2; page = bytes; at = P.3 }

pub page_is : (m : Machine) (n seg q : ℕ) (N : IsNamedPage m n seg q) → page_in m n q ≡ Some N.page
page_is m n seg q N = ap (option_and_then (λ (c : Cache). slice_get c.pages q)) N.there ∙ N.at

segment_is : (m : Machine) (n seg q x : ℕ) (N : IsNamedPage m n seg q) → segment_of m n ≡ Some x → seg ≡ x
segment_is m n seg q x N e =
    let f : Some seg ≡ Some x = sym N.named ∙ sym (ap (option_and_then (λ (c : Cache). c.segment)) N.there) ∙ e in
    cc f

-- One page is pushed

same_number : (n : ℕ) → (n == n) ≡ true
same_number n = grind (arith, nat_tests)

other_number : (m n : ℕ) → m ≢ n → (m == n) ≡ false
other_number m n h = grind (arith, nat_tests)

got_same : (s : Segments) (seg : ℕ) (pages : List Page) → get (insert s.pages seg pages) seg ≡ Some pages
got_same s seg pages = get-insert nat_cmp_total s.pages seg pages seg ∙ ap (λ (b : Bool). cond b (Some pages) (get s.pages seg)) (unsigned_tied seg seg ∙ same_number seg)

got_other : (s : Segments) (seg x : ℕ) (pages : List Page) → x ≢ seg → get (insert s.pages seg pages) x ≡ get s.pages x
got_other s seg x pages other = get-insert nat_cmp_total s.pages seg pages x ∙ ap (λ (b : Bool). cond b (Some pages) (get s.pages x)) (unsigned_tied x seg ∙ other_number x seg other)

module _ (m : Machine) (s : Segments) (n seg q : ℕ) (N : IsNamedPage m n seg q) (B : AreBacked m.caches s) where
  after : Segments
  after = put_segment_page seg q N.page s

  backs : Backs s seg N.cache
  backs = B.backed n seg N.cache N.there N.named

  got : get (insert s.pages seg (set (unwrap_or (get s.pages seg) []) q N.page)) seg ≡ Some (set backs.pages q N.page)
  got = got_same s seg (set (unwrap_or (get s.pages seg) []) q N.page) ∙ ap (λ (o : Option (List Page)). Some (set (unwrap_or o []) q N.page)) backs.there

  within : q < length backs.pages
  within = omega (arith, slice_get_within N.cache.pages q N.page N.at, backs.many)

  -- the page pushed is the cache's
  pushed_is : (page : ℕ) → page ≡ q → segment_page (put_segment_page seg q N.page s) seg page ≡ page_in m n page
  pushed_is page same =
      ap (segment_page (put_segment_page seg q N.page s) seg) same
      ∙ ap (option_and_then (λ (ps : List Page). slice_get ps q)) got
      ∙ get_set_same backs.pages q N.page within
      ∙ sym (page_is m n seg q N)
      ∙ ap (page_in m n) (sym same)

  -- the others are as before
  unpushed_is : (page : ℕ) → page ≢ q → segment_page (put_segment_page seg q N.page s) seg page ≡ segment_page s seg page
  unpushed_is page other =
      ap (option_and_then (λ (ps : List Page). slice_get ps page)) got
      ∙ get_set_other backs.pages q page N.page other
      ∙ sym (ap (option_and_then (λ (ps : List Page). slice_get ps page)) backs.there)

  pub now_there : ArePushed m (Some (put_segment_page seg q N.page s)) n q (q + 1)
  now_there x page e from below =
      ap (λ (k : ℕ). segment_page (put_segment_page seg q N.page s) k page) (sym (segment_is m n seg q x N e))
      ∙ pushed_is page (omega (arith, from, below))

  pub still_there : (first past : ℕ) → ArePushed m (Some s) n first past → ArePushed m (Some (put_segment_page seg q N.page s)) n first past
  still_there first past before x page e from below =
      let same : seg ≡ x = segment_is m n seg q x N e in
      ap (λ (k : ℕ). segment_page (put_segment_page seg q N.page s) k page) (sym same)
      ∙ elim (cases_eq page q) [
        | inl this ↦ pushed_is page this
        | inr other ↦ unpushed_is page other ∙ ap (λ (k : ℕ). segment_page s k page) same ∙ before x page e from below
      ]

  pushed_backs : denies s.denied seg q ≡ false → Backs (put_segment_page seg q N.page s) seg N.cache
  pushed_backs allowed = record {
    pages = set backs.pages q N.page;
    there = got;
    many = length-set backs.pages q N.page ∙ backs.many;
    denied = λ page e. get_set_other backs.pages q page N.page (λ same. let f : true ≡ false = sym e ∙ ap (denies s.denied seg) same ∙ allowed in cc f) ∙ backs.denied page e;
  }

  pub still_backed : denies s.denied seg q ≡ false → AreBacked m.caches (put_segment_page seg q N.page s)
  still_backed allowed = record {
    apart = B.apart;
    backed = λ k x d e f. elim (cases_eq x seg) [
      | inl same ↦
          let one : k ≡ n = B.apart k n x d N.cache e N.there f (N.named ∙ ap Some (sym same)) in
          let is : Some N.cache ≡ Some d = sym N.there ∙ ap (cache_of m) (sym one) ∙ e in
          subst (λ (y : Cache). Backs (put_segment_page seg q N.page s) x y) (let g : N.cache ≡ d = cc is in g)
          (subst (λ (y : ℕ). Backs (put_segment_page seg q N.page s) y N.cache) (sym same) (pushed_backs allowed))
      | inr other ↦
          let K = B.backed k x d e f in
          record {
            pages = K.pages;
            there = got_other s seg x (set (unwrap_or (get s.pages seg) []) q N.page) other ∙ K.there;
            many = K.many;
            denied = K.denied;
          }
    ];
  }

  page_named_is : page_named m seg q ≡ Some N.page
  page_named_is = ap (option_and_then (λ (c : Cache). slice_get c.pages q)) (named_is m s n seg N.cache B N.there N.named) ∙ N.at

  pub one_rule : denies s.denied seg q ≡ false → PushRule m (Some s) ((seg, q) ∷ []) (Some (put_segment_page seg q N.page s))
  one_rule allowed = record {
    may = ((subst IsSome (sym page_named_is) refl, allowed), tt);
    pushed = ap (λ (o : Option Page). Some (put_segment_page seg q (unwrap_or o []) s)) (sym page_named_is);
  }

  -- a page that the mapper denies is there already
  pub denied_there : denies s.denied seg q ≡ true → ArePushed m (Some s) n q (q + 1)
  denied_there denied x page e from below =
      let this : page ≡ q = omega (arith, from, below) in
      ap (λ (k : ℕ). segment_page s k page) (sym (segment_is m n seg q x N e))
      ∙ ap (segment_page s seg) this
      ∙ ap (option_and_then (λ (ps : List Page). slice_get ps q)) backs.there
      ∙ backs.denied q denied
      ∙ N.at
      ∙ sym (page_is m n seg q N)
      ∙ ap (page_in m n) (sym this)

-- Several pages are pushed

after_both : (m : Machine) (ps qs : List (ℕ × ℕ)) (s : Option Segments) → segments_after m (ps ++ qs) s ≡ segments_after m qs (segments_after m ps s)
after_both m [] qs s = refl
after_both m (p ∷ ps) qs s = after_both m ps qs (option_map (put_segment_page p.0 p.1 (unwrap_or (page_named m p.0 p.1) [])) s)

may_before : (m : Machine) (s : Option Segments) (p q : ℕ × ℕ) → MayPush m (option_map (put_segment_page p.0 p.1 (unwrap_or (page_named m p.0 p.1) [])) s) q → MayPush m s q
may_before m None p q may = may
may_before m (Some s) p q may = may

may_at_first : (m : Machine) (ps : List (ℕ × ℕ)) (s : Option Segments) (q : ℕ × ℕ) → MayPush m (segments_after m ps s) q → MayPush m s q
may_at_first m [] s q may = may
may_at_first m (p ∷ ps) s q may = may_before m s p q (may_at_first m ps (option_map (put_segment_page p.0 p.1 (unwrap_or (page_named m p.0 p.1) [])) s) q may)

all_both : (P : ℕ × ℕ → Type 0) (ps qs : List (ℕ × ℕ)) → AllByRecursion P ps → AllByRecursion P qs → AllByRecursion P (ps ++ qs)
all_both P [] qs a b = b
all_both P (p ∷ ps) qs a b = (a.0, all_both P ps qs a.1 b)

all_weaker : (P Q : ℕ × ℕ → Type 0) → ((p : ℕ × ℕ) → P p → Q p) → (ps : List (ℕ × ℕ)) → AllByRecursion P ps → AllByRecursion Q ps
all_weaker P Q f [] a = tt
all_weaker P Q f (p ∷ ps) a = (f p a.0, all_weaker P Q f ps a.1)

pub rule_none : (m : Machine) (s t : Option Segments) → t ≡ s → PushRule m s [] t
rule_none m s t same = record { may = tt; pushed = same }

pub rule_then : (m : Machine) (ps qs : List (ℕ × ℕ)) (a b c : Option Segments) → PushRule m a ps b → PushRule m b qs c → PushRule m a (ps ++ qs) c
rule_then m ps qs a b c P Q = record {
  may = all_both (MayPush m a) ps qs P.may (all_weaker (MayPush m b) (MayPush m a) (λ p may. may_at_first m ps a p (subst (λ (o : Option Segments). MayPush m o p) P.pushed may)) qs Q.may);
  pushed = Q.pushed ∙ ap (segments_after m qs) P.pushed ∙ sym (after_both m ps qs a);
}

-- The same of the mapper

err_more : {T E : Type 0} (r : Result T E) (a b : ℕ) → OnErr r (0 < b) → OnErr r (0 < a + b)
err_more (Ok x) a b h = tt
err_more (Err e) a b h = omega (arith, h)

pub pushed_start : {T E : Type 0} (m : Machine) (told : Option Held) (counts : MapperCounts) (x : T) → Pushed m told told counts counts (let r : Result T E = Ok x in r)
pushed_start m told counts x = record {
  pushes = [];
  rises = no_counts;
  rose = record { faults_later = omega arith; pulls_later = omega arith; pushes_later = omega arith; faults = λ h. omega arith; pulls = λ h. omega arith; pushes = λ h. omega arith };
  failed = tt;
  few = omega arith;
  rule = rule_none m (segments_of told) (segments_of told) refl;
}

abbrev pub pushed_none : {T E : Type 0} (m : Machine) (before after : Option Held) (counts now rises : MapperCounts) (r : Result T E) → after ≡ before → Rise counts now rises → OnErr r (0 < rises.faults) → Pushed m before after counts now r
pushed_none m before after counts now rises r same rose failed = record {
  pushes = [];
  rises = rises;
  rose = rose;
  failed = failed;
  few = omega arith;
  rule = rule_none m (segments_of before) (segments_of after) (ap segments_of same);
}

pub pushed_then : {T U E F : Type 0} (m : Machine) (a b c : Option Held) (x y z : MapperCounts) (r : Result T E) (t : Result U F) → Pushed m a b x y r → Pushed m b c y z t → Pushed m a c x z t
pushed_then m a b c x y z r t P Q = record {
  pushes = P.pushes ++ Q.pushes;
  rises = counts_sum P.rises Q.rises;
  rose = rise_then x y z P.rises Q.rises P.rose Q.rose;
  failed = err_more t P.rises.faults Q.rises.faults Q.failed;
  few = omega (arith, length-append P.pushes Q.pushes, P.few, Q.few);
  rule = rule_then m P.pushes Q.pushes (segments_of a) (segments_of b) (segments_of c) P.rule Q.rule;
}

-- the same with another result that is no error
pub pushed_by : {T U E F : Type 0} (m : Machine) (a b : Option Held) (x y : MapperCounts) (r : Result T E) (t : Result U F) → ((n : ℕ) → OnErr r (0 < n) → OnErr t (0 < n)) → Pushed m a b x y r → Pushed m a b x y t
pushed_by m a b x y r t weaker P = record {
  pushes = P.pushes;
  rises = P.rises;
  rose = P.rose;
  failed = weaker P.rises.faults P.failed;
  few = P.few;
  rule = P.rule;
}

module _ (m : Machine) (n seg q : ℕ) (N : IsNamedPage m n seg q) where
  -- the mapper lets the page be written, or not
  abbrev pub IsGranted : Bool → Option Held → Type 0
  IsGranted may told = IfSome told (λ h. may ≡ not (denies h.denied seg q))

  pub rule_one : (told : Option Held) (may : Bool) → may ≡ true → IsGranted may told → IsReady m told → PushRule m (segments_of told) ((seg, q) ∷ []) (segments_of (option_map (with_page seg q N.page) told))
  rule_one None may t g R = record { may = (tt, tt); pushed = refl }
  rule_one (Some h) may t g R = one_rule m (segments_in h) n seg q N R.backed (granted_is may (denies h.denied seg q) t g)

  pub ready_one : (told : Option Held) (may : Bool) → may ≡ true → IsGranted may told → IsReady m told → IsReady m (option_map (with_page seg q N.page) told)
  ready_one None may t g R = R
  ready_one (Some h) may t g R = record { whole = R.whole; backed = still_backed m (segments_in h) n seg q N R.backed (granted_is may (denies h.denied seg q) t g) }

  pub there_one : (told : Option Held) → IsReady m told → ArePushed m (segments_of (option_map (with_page seg q N.page) told)) n q (q + 1)
  there_one None R = tt
  there_one (Some h) R = now_there m (segments_in h) n seg q N R.backed

  pub there_still : (told : Option Held) → IsReady m told → (first past : ℕ) → ArePushed m (segments_of told) n first past → ArePushed m (segments_of (option_map (with_page seg q N.page) told)) n first past
  there_still None R first past before = tt
  there_still (Some h) R first past before = still_there m (segments_in h) n seg q N R.backed first past before

  pub there_denied : (told : Option Held) (may : Bool) → may ≡ false → IsGranted may told → IsReady m told → ArePushed m (segments_of told) n q (q + 1)
  there_denied None may f g R = tt
  there_denied (Some h) may f g R = denied_there m (segments_in h) n seg q N R.backed (denied_is may (denies h.denied seg q) f g)

-- One page is pushed, or the push fails.
module _ {E : Type 0} (m : Machine) (n seg q : ℕ) (N : IsNamedPage m n seg q) (before after : Option Held) (may : Bool) (t : may ≡ true) (g : IsGranted m n seg q N may before) (R : IsReady m before) where
  pub page_pushed : (r : Result (Unit {0}) E) (counts now : MapperCounts) → OnOk r (after ≡ option_map (with_page seg q N.page) before) → OnErr r (after ≡ before) → Rise counts now (one_call 0 1 r) → Pushed m before after counts now r
  page_pushed (Ok x) counts now ok err rose = record {
    pushes = (seg, q) ∷ [];
    rises = one_call 0 1 (let r : Result (Unit {0}) E = Ok x in r);
    rose = rose;
    failed = tt;
    few = omega arith;
    rule = subst (λ (o : Option Held). PushRule m (segments_of before) ((seg, q) ∷ []) (segments_of o)) (sym ok) (rule_one m n seg q N before may t g R);
  }
  page_pushed (Err e) counts now ok err rose = pushed_none m before after counts now (one_call 0 1 (let r : Result (Unit {0}) E = Err e in r)) (Err e) err rose (omega arith)

  pub page_there : (r : Result (Unit {0}) E) → OnOk r (after ≡ option_map (with_page seg q N.page) before) → OnOk r (ArePushed m (segments_of after) n q (q + 1))
  page_there (Ok x) ok = subst (λ (o : Option Held). ArePushed m (segments_of o) n q (q + 1)) (sym ok) (there_one m n seg q N before R)
  page_there (Err e) ok = tt

  pub page_kept : (r : Result (Unit {0}) E) → OnOk r (after ≡ option_map (with_page seg q N.page) before) → OnErr r (after ≡ before) → (first : ℕ) → ArePushed m (segments_of before) n first q → ArePushed m (segments_of after) n first q
  page_kept (Ok x) ok err first h = subst (λ (o : Option Held). ArePushed m (segments_of o) n first q) (sym ok) (there_still m n seg q N before R first q h)
  page_kept (Err e) ok err first h = subst (λ (o : Option Held). ArePushed m (segments_of o) n first q) (sym err) h

  pub page_ready : (r : Result (Unit {0}) E) → OnOk r (after ≡ option_map (with_page seg q N.page) before) → OnErr r (after ≡ before) → IsReady m after
  page_ready (Ok x) ok err = subst (IsReady m) (sym ok) (ready_one m n seg q N before may t g R)
  page_ready (Err e) ok err = subst (IsReady m) (sym err) R

-- ranges side by side
pub there_both : (m : Machine) (s : Option Segments) (n first page : ℕ) → ArePushed m s n first page → ArePushed m s n page (page + 1) → ArePushed m s n first (page + 1)
there_both m None n first page a b = tt
there_both m (Some s) n first page a b = λ x q e from below. elim (cases_eq q page) [
  | inl this ↦ b x q e (omega (arith, this)) (omega (arith, this))
  | inr other ↦ a x q e from (omega (arith, below, other))
]

pub there_less : (m : Machine) (s : Option Segments) (n first less past : ℕ) → less ≤ past → ArePushed m s n first past → ArePushed m s n first less
there_less m None n first less past few a = tt
there_less m (Some s) n first less past few a = λ x q e from below. a x q e from (omega (arith, below, few))

pub there_none : (m : Machine) (s : Option Segments) (n first past : ℕ) → past ≤ first → ArePushed m s n first past
there_none m None n first past ends = tt
there_none m (Some s) n first past ends = λ x q e from below. absurd (omega (arith, ends, from, below))

-- what is pushed has the mapper's page size
pub named_size : (m : Machine) (n seg q : ℕ) (told now : Option ℕ) (N : IsNamedPage m n seg q) → HasWholePages m → now ≡ told → Fits told m → IfSome now (λ k. length N.page ≡ k)
named_size m n seg q told None N whole same fits = tt
named_size m n seg q None (Some k) N whole same fits = absurd (cc same)
named_size m n seg q (Some x) (Some k) N whole same fits =
    let pages : All (λ (p : Page). length p ≡ m.page_bytes) N.cache.pages = numbered-all (IsWhole m.page_bytes) m.caches n N.cache N.there whole in
    sym (ap length (get_or_from_slice_get N.cache.pages q N.page [] N.at)) ∙ All-get_or (λ (p : Page). length p ≡ m.page_bytes) N.cache.pages q [] (slice_get_within N.cache.pages q N.page N.at) pages ∙ sym fits ∙ (let e : k ≡ x = cc same in sym e)

-- a page that a segment names is one of the mapper's
pub held_page : (m : Machine) (n seg q : ℕ) (told : Option Held) → IsNamedPage m n seg q → IsReady m told → IfSome told (λ h. IsSome (segment_page (segments_in h) seg q))
held_page m n seg q None N R = tt
held_page m n seg q (Some h) N R =
    let K = R.backed.backed n seg N.cache N.there N.named in
    let less : q < length K.pages = omega (arith, slice_get_within N.cache.pages q N.page N.at, K.many) in
    subst IsSome (sym (ap (option_and_then (λ (ps : List Page). slice_get ps q)) K.there ∙ slice_get-get_or K.pages q [] less)) refl
