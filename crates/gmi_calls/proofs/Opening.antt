-- Segments are opened, and pages are taken from them again.
use Rattle.std.proofs.Common.{◌≡◌, ◌==◌, ℕ, zero, suc, ◌+◌, ◌-◌, ◌<◌, ◌≤◌, Bool, true, cond, List, [], ◌∷◌, ◌++◌, length, map, replicate, Option, Some, None, Vec, Global, refl, sym, ap, subst, ◌∙◌, arith}
use Rattle.std.specs.Prelude.{All, IfSome, IsSome, option_and_then, option_map, slice_get, unwrap_or}
use Rattle.std.specs.Ordering.{nat_cmp}
use Rattle.std.specs.FinMap.{FinMap, empty, get, get-empty, get-insert, insert}
use Rattle.std.specs.Cmp.{unsigned_tied}
use Rattle.std.proofs.lemmas.Cmp.{nat_cmp_total}
use Rattle.std.proofs.lemmas.Bool.Decides.{nat_tests}
use Rattle.std.proofs.lemmas.List.{length-append, length-map, length-replicate}
use Rattle.std.proofs.lemmas.List.FromFn.{length-map-range_with_len}
use Rattle.std.proofs.lemmas.Option.{slice_get-get_or}
use Rattle.vm_ids.specs.Counting.{MapperCounts, no_counts}
use Rattle.vm_ids.specs.Held.{Held, Segments, page_of, segments_in}
use Rattle.vm_ids.specs.declared.command.Command.{Command}
use Rattle.vm_model.specs.Machine.{Machine, Page, cache_of, pages_in, segment_of, zero_page}
use Rattle.vm_model.specs.Answering.{Answer, held_for, held_part}
use Rattle.vm_model.specs.Outcome.{Outcome, seen_at}
use Rattle.vm_model.proofs.Parts.Naming.{segment_cache}
use Rattle.vm_model.proofs.Machines.Sound.{all_from_map}
use Rattle.std.proofs.lemmas.List.Elements.{All-replicate}
use Rattle.gmi_calls.specs.Calling.{Fits}
use Rattle.gmi_calls.specs.Backing.{IsReady}
use Rattle.gmi_calls.specs.Reaching.{ArePagesOf, HasPages}
use Rattle.gmi_calls.proofs.Backing.{held_is, part_page}
use Rattle.gmi_calls.proofs.Called.{OutcomeFor, any_rises}

-- Lists that have the same at each place are one list.
pub same_list : {A : Type 0} (xs ys : List A) → length xs ≡ length ys → ((i : ℕ) → i < length xs → slice_get xs i ≡ slice_get ys i) → xs ≡ ys
same_list [] [] e h = refl
same_list [] (y ∷ ys) e h = absurd (omega (arith, e))
same_list (x ∷ xs) [] e h = absurd (omega (arith, e))
same_list {A} (x ∷ xs) (y ∷ ys) e h =
    let first : Some x ≡ Some y = h 0 (omega arith) in
    let head : x ≡ y = cc first in
    ap (λ (z : A). z ∷ xs) head ∙ ap (λ (zs : List A). y ∷ zs) (same_list xs ys (omega (arith, e)) (λ i less. h (suc i) (omega (arith, less))))

abbrev no_pages : FinMap nat_cmp (List Page)
no_pages = empty

-- Segments with these pages of one of them.
abbrev one_segment : ℕ → List Page → Segments
one_segment seg pages = record { pages = insert no_pages seg pages; denied = [] }

one_is : (seg : ℕ) (pages : List Page) → get (one_segment seg pages).pages seg ≡ Some pages
one_is seg pages = get-insert nat_cmp_total no_pages seg pages seg ∙ ap (λ (b : Bool). cond b (Some pages) (get no_pages seg)) (unsigned_tied seg seg ∙ (let s : (seg == seg) ≡ true = grind (arith, nat_tests) in s))

sized : (seg : ℕ) (size : Option ℕ) → (s : Segments) × (option_map length (get s.pages seg) ≡ size)
sized seg None = (record { pages = no_pages; denied = [] }, ap (option_map length) (get-empty nat_cmp seg))
sized seg (Some n) = (one_segment seg (replicate n []), ap (option_map length) (one_is seg (replicate n [])) ∙ ap Some (length-replicate n []))

-- What an opening comes to, where it hangs on the size of the segment.
pub sized_for : (told : Option Held) (m : Machine) (c : Command) (a : Answer) (seg : ℕ) (size : Option ℕ) (rises : MapperCounts) → IfSome told (λ h. size ≡ option_map length (get h.segments seg))
    → ((s : Segments) → option_map length (get s.pages seg) ≡ size → Outcome m None c s a m no_counts) → OutcomeFor told m c a m rises
sized_for (Some h) m c a seg size rises is f = any_rises m m c (segments_in h) a rises (f (segments_in h) (sym is))
sized_for None m c a seg size rises is f =
    let s = sized seg size in
    (s.0, any_rises m m c s.0 a rises (f s.0 s.1))

segment_sized : (o : Option (List Page)) (n : ℕ) → Some n ≡ option_map length o → (ps : List Page) × (o ≡ Some ps) × (length ps ≡ n)
segment_sized None n e = absurd (cc e)
segment_sized (Some ps) n e = (ps, refl, let f : n ≡ length ps = cc e in sym f)

-- the pages of a segment of this size
pub sized_pages : (told now : Option Held) (seg n : ℕ) (size : Option ℕ) → now ≡ told → Some n ≡ size → IfSome told (λ h. size ≡ option_map length (get h.segments seg)) → IfSome now (HasPages seg 0 n)
sized_pages told None seg n size same is holds = tt
sized_pages None (Some k) seg n size same is holds = absurd (cc same)
sized_pages (Some h) (Some k) seg n size same is holds = λ page from below.
    let e : k ≡ h = cc same in
    let S = segment_sized (get h.segments seg) n (is ∙ holds) in
    let less : page < length S.0 = omega (arith, below, S.2) in
    subst (λ (x : Held). IsSome (page_of x seg page)) (sym e) (subst IsSome (sym (ap (option_and_then (λ (ps : List Page). slice_get ps page)) S.1 ∙ slice_get-get_or S.0 page [] less)) refl)

-- What an opening comes to, where all pages of the segment were pulled.
pub opened_for : (told now : Option Held) (m next : Machine) (c : Command) (a : Answer) (seg : ℕ) (size : Option ℕ) (pages : List Page) (rises : MapperCounts) → now ≡ told → Some (length pages) ≡ size → IfSome told (λ h. size ≡ option_map length (get h.segments seg))
    → IfSome now (ArePagesOf seg 0 pages) → ((s : Segments) → get s.pages seg ≡ Some pages → Outcome m None c s a next no_counts) → OutcomeFor told m c a next rises
opened_for None now m next c a seg size pages rises same is holds pulled f = (one_segment seg pages, any_rises m next c (one_segment seg pages) a rises (f (one_segment seg pages) (one_is seg pages)))
opened_for (Some h) None m next c a seg size pages rises same is holds pulled f = absurd (cc same)
opened_for (Some h) (Some k) m next c a seg size pages rises same is holds pulled f =
    let e : k ≡ h = cc same in
    let S = segment_sized (get h.segments seg) (length pages) (is ∙ holds) in
    let whole : pages ≡ S.0 = same_list pages S.0 (sym S.2) (λ i less.
    pulled i less
    ∙ ap (λ (x : Held). page_of x seg (0 + i)) e
    ∙ ap (option_and_then (λ (ps : List Page). slice_get ps (0 + i))) S.1
    ∙ ap (slice_get S.0) (let z : 0 + i ≡ i = omega arith in z)) in
    any_rises m next c (segments_in h) a rises (f (segments_in h) (S.1 ∙ ap Some (sym whole)))

-- Pages that are taken again

-- the pages of a list from this place on
part_of : (ps pages : List Page) (first n : ℕ) → length pages ≡ n → first + n ≤ length ps → ((i : ℕ) → i < n → slice_get pages i ≡ slice_get ps (first + i)) → held_part (Some ps) first n ≡ pages
part_of ps pages first n many fits same = same_list (held_part (Some ps) first n) pages (length-map-range_with_len _ first n ∙ sym many) (λ i less.
    let small : i < n = omega (arith, less, length-map-range_with_len (λ page. unwrap_or (slice_get ps page) []) first n) in
    let back : first + i - first ≡ i = omega arith in
    ap (slice_get (held_part (Some ps) first n)) (sym back)
    ∙ part_page (Some ps) ps first n (first + i) refl (omega arith) (omega (arith, small)) (omega (arith, small, fits))
    ∙ sym (same i small))

get_behind : {A : Type 0} (n : ℕ) (x : A) (ys : List A) (i : ℕ) → slice_get (replicate n x ++ ys) (n + i) ≡ slice_get ys i
get_behind zero x ys i = ap (slice_get ys) (let e : 0 + i ≡ i = omega arith in e)
get_behind (suc n) x ys i = ap (slice_get (replicate (suc n) x ++ ys)) (let e : suc n + i ≡ suc (n + i) = omega arith in e) ∙ get_behind n x ys i

-- What an invalidation comes to, where all its pages were pulled.
pub taken_for : (told now : Option Held) (m next : Machine) (c : Command) (a : Answer) (n seg first pages : ℕ) (taken : List Page) (rises : MapperCounts) → now ≡ told → IsReady m told → segment_of m n ≡ Some seg → first + pages ≤ pages_in (cache_of m n) → length taken ≡ pages
    → IfSome now (ArePagesOf seg first taken) → ((s : Segments) → held_part (held_for m s n) first pages ≡ taken → Outcome m None c s a next no_counts) → OutcomeFor told m c a next rises
taken_for None now m next c a n seg first pages taken rises same R named fits many pulled f =
    let ps : List Page = replicate first [] ++ taken in
    let s : Segments = one_segment seg ps in
    let long : length ps ≡ first + pages = omega (arith, length-append (replicate first []) taken, length-replicate first (let p : Page = [] in p), many) in (
      s,
      any_rises m next c s a rises (f s (ap (λ (o : Option (List Page)). held_part o first pages) (ap (option_and_then (get s.pages)) named ∙ one_is seg ps)
          ∙ part_of ps taken first pages many (omega (arith, long)) (λ i less. sym (get_behind first [] taken i)))),
    )
taken_for (Some h) None m next c a n seg first pages taken rises same R named fits many pulled f = absurd (cc same)
taken_for (Some h) (Some k) m next c a n seg first pages taken rises same R named fits many pulled f =
    let e : k ≡ h = cc same in
    let C = segment_cache m n seg named in
    let K = R.backed.backed n seg C.0 C.1 C.2 in
    let s = segments_in h in
    any_rises m next c s a rises (f s (ap (λ (o : Option (List Page)). held_part o first pages) (held_is m s n seg C.0 K.pages C.1 C.2 K.there)
    ∙ part_of K.pages taken first pages many (omega (arith, fits, ap pages_in C.1, K.many)) (λ i less.
    pulled i (omega (arith, less, many))
    ∙ ap (λ (x : Held). page_of x seg (first + i)) e
    ∙ ap (option_and_then (λ (ps : List Page). slice_get ps (first + i))) K.there)))

-- Zero pages that are to be filled

pub zeros_many : (vs : List (Vec ℕ Global)) (n b : ℕ) → map (λ p. p.items) vs ≡ replicate n (zero_page b) → length vs ≡ n
zeros_many vs n b e = sym (length-map vs (λ p. p.items)) ∙ ap length e ∙ length-replicate n (zero_page b)

pub zeros_whole : (vs : List (Vec ℕ Global)) (n b : ℕ) → map (λ p. p.items) vs ≡ replicate n (zero_page b) → All (λ p. length p.items ≡ b) vs
zeros_whole vs n b e =
    let P : Page → Type 0 = λ p. length p ≡ b in
    let zero : Page = zero_page b in
    all_from_map (λ p. p.items) P vs (subst (All P) (sym e) (All-replicate P n zero (length-replicate b 0)))

-- pages of the machine's size are of the mapper's
pub fit_pages : (told : Option ℕ) (m : Machine) (vs : List (Vec ℕ Global)) → Fits told m → All (λ p. length p.items ≡ m.page_bytes) vs → IfSome told (λ bytes. All (λ p. length p.items ≡ bytes) vs)
fit_pages None m vs fits whole = tt
fit_pages (Some b) m vs fits whole = subst (λ (n : ℕ). All (λ (p : Vec ℕ Global). length p.items ≡ n) vs) (sym fits) whole

-- and those of the machine are, with its bytes or without them
pub seen_fits : (told : Option ℕ) (held : Option Held) (m : Machine) → Fits told (seen_at held m) → Fits told m
seen_fits told None m fits = fits
seen_fits told (Some h) m fits = fits
