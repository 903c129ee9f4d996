-- Machines without the bytes of their pages.
use Rattle.std.proofs.Common.{◌≡◌, ℕ, ◌-◌, List, [], ◌∷◌, length, map, set, take, drop, Option, Some, None, refl, sym, ap, subst, ◌∙◌, arith}
use Rattle.std.specs.FinMap.{empty}
use Rattle.std.specs.Prelude.{IfNone, option_map, sum_by}
use Rattle.std.proofs.lemmas.List.{drop-map, length-map, map-set, take-map}
use Rattle.std.proofs.lemmas.List.Sums.{sum_by-cons}
use Rattle.vm_model.proofs.Parts.Lists.{numbered-map}
use Rattle.interface_callers.proofs.Words.{Answer, Cache, Command, Held, IsAlike, Machine, MapperCounts, OutcomeAt, Page, PageForest, Segments, Span, blank, blank_cache, cache_of, live_pages, pages_in, put_cache, put_pages, put_span, segments_of}
use Rattle.interface_callers.proofs.Lists.{map-overwrite, mapped_some, some_then, then_same}

abbrev pub emptied : Page → Page
emptied page = []

-- Caches

pub blank_at : (w : Machine) (k : ℕ) → cache_of (blank w) k ≡ option_map blank_cache (cache_of w k)
blank_at w k = numbered-map blank_cache w.caches k

-- the machine with bytes that the one without is made from has its caches
pub whole_cache : (m w : Machine) → m ≡ blank w → (k : ℕ) (c : Cache) → cache_of m k ≡ Some c → (x : Cache) × (cache_of w k ≡ Some x) × (blank_cache x ≡ c)
whole_cache m w is k c there = mapped_some blank_cache (cache_of w k) c (sym (blank_at w k) ∙ ap (λ (y : Machine). cache_of y k) (sym is) ∙ there)

pub as_many : (x c : Cache) → blank_cache x ≡ c → length x.pages ≡ length c.pages
as_many x c is = sym (length-map x.pages emptied) ∙ ap (λ (y : Cache). length y.pages) is

pub same_pages : (o : Option Cache) → pages_in (option_map blank_cache o) ≡ pages_in o
same_pages None = refl
same_pages (Some c) = length-map c.pages emptied

blank_sum : (cs : List (Option Cache)) → sum_by pages_in (map (option_map blank_cache) cs) ≡ sum_by pages_in cs
blank_sum [] = refl
blank_sum (c ∷ cs) = omega (arith, sum_by-cons pages_in (option_map blank_cache c) (map (option_map blank_cache) cs), sum_by-cons pages_in c cs, same_pages c, blank_sum cs)

pub blank_live : (w : Machine) → live_pages (blank w) ≡ live_pages w
blank_live w = blank_sum w.caches

-- Machines

pub blank_twice : (m : Machine) → blank (blank m) ≡ blank m
blank_twice m = λ i. record m { caches = then_same (option_map blank_cache) (option_map blank_cache) (option_map blank_cache) (some_then blank_cache blank_cache blank_cache (λ c j. record c { pages = then_same emptied emptied emptied (λ p. refl) c.pages j })) m.caches i }

-- a machine to which an answer leads has no bytes where nothing is told
pub blank_after : (told : Option Held) (m n : Machine) (f : Option PageForest) (c : Command) (a : Answer) (rises : MapperCounts) → OutcomeAt (segments_of told) m f c a n rises → IfNone told (n ≡ blank n)
blank_after None m n f c a rises o = o.is_next ∙ sym (blank_twice o.whole_next) ∙ ap blank (sym o.is_next)
blank_after (Some h) m n f c a rises o = tt

pub blank_bare : (told : Option Held) (m : Machine) → m.caches ≡ [] → IfNone told (m ≡ blank m)
blank_bare (Some h) m bare = tt
blank_bare None m bare = λ i. record m { caches = (bare ∙ sym (ap (map (option_map blank_cache)) bare)) i }

-- nothing is told
pub as_untold : {P : Type 0} (told : Option Held) → segments_of told ≡ None → IfNone told P → P
as_untold None e p = p
as_untold (Some h) e p = absurd (cc e)

abbrev pub no_segments : Segments
no_segments = record { pages = empty; denied = [] }

-- Changes

-- a cache is taken away
abbrev pub without : Machine → ℕ → Machine
without m cache = record m { caches = set m.caches (cache - 1) None }

pub blank_without : (w : Machine) (cache : ℕ) → blank (without w cache) ≡ without (blank w) cache
blank_without w cache = λ i. record (blank w) { caches = map-set (option_map blank_cache) w.caches (cache - 1) None i }

blank_put : (first : ℕ) (pages : List Page) (d : Cache) → blank_cache (put_pages first pages d) ≡ put_pages first (map emptied pages) (blank_cache d)
blank_put first pages d = λ i. record { segment = d.segment; pages = map-overwrite emptied first pages d.pages i }

blank_part : (first pages : ℕ) (xs : List Page) → map emptied (take pages (drop first xs)) ≡ take pages (drop first (map emptied xs))
blank_part first pages xs = sym (take-map emptied pages (drop first xs)) ∙ ap (take pages) (sym (drop-map emptied first xs))

pub blank_span : (w : Machine) (s : Span) (x y : Cache) → blank (put_span w s x y) ≡ put_span (blank w) s (blank_cache x) (blank_cache y)
blank_span w s x y =
    (λ i. record (blank w) { caches = map-set (option_map blank_cache) w.caches (s.to.0 - 1) (Some (put_pages s.to_page.0 (take s.pages (drop s.from_page.0 x.pages)) y)) i })
    ∙ (λ i. put_cache (blank w) s.to.0 (blank_put s.to_page.0 (take s.pages (drop s.from_page.0 x.pages)) y i))
    ∙ (λ i. put_cache (blank w) s.to.0 (put_pages s.to_page.0 (blank_part s.from_page.0 s.pages x.pages i) (blank_cache y)))

-- Outcomes

-- What holds of each machine with bytes, and of it without them, holds of any.
pub by_bytes : (P : Machine → Machine → Type 0) (told : Option Segments) (m n : Machine) (f : Option PageForest) (c : Command) (a : Answer) (rises : MapperCounts)
    → ((h : Segments) → OutcomeAt (Some h) m f c a n rises → P m n) → ((w v : Machine) (h : Segments) (b : Answer) → m ≡ blank w → OutcomeAt (Some h) w f c b v rises → IsAlike b a → P (blank w) (blank v))
    → OutcomeAt told m f c a n rises → P m n
by_bytes P (Some h) m n f c a rises known unknown o = known h o
by_bytes P None m n f c a rises known unknown o =
    subst (λ (x : Machine). P x n) (sym o.is) (subst (P (blank o.whole)) (sym o.is_next) (unknown o.whole o.whole_next o.segments o.whole_answer o.is o.outcome o.alike))
