-- Links and places that were never written, and lists that have all entries at first.
use Rattle.std.proofs.Common.{◌≡◌, ℕ, zero, suc, ◌+◌, ◌-◌, ◌<◌, ◌≤◌, ◌^◌, nat_lt, List, [], ◌∷◌, ◌++◌, length, get_or, set, map, replicate, Option, Some, None, refl, sym, ap, ◌∙◌, arith, inl, inr, append_assoc, length-append, length-set, le-ltb, lt-ltb}
use Rattle.std.specs.Prelude.{count_by, if◌then◌else◌}
use Rattle.std.specs.List.{range_with_len}
use Rattle.std.proofs.lemmas.Bool.{cases_eq, cases_lt, cond-false, cond-true}
use Rattle.std.proofs.lemmas.List.{get_or_append_left, get_or_default, get_or-append_right, get_or-set_other, get_or-set_same, get_or_past, length-replicate, length_push, replicate-append-replicate, set-append_left}
use Rattle.std.proofs.lemmas.List.FromFn.{get_or-map-range_with_len, length-map-range_with_len}
use Rattle.vm_ids.proofs.Places.{bit_true, count_cons, count-replicate_none, other_number, same_all, same_number}
use Rattle.page_tables.specs.Membership.{is_on}
use Rattle.page_tables.specs.Links.{first_link, first_of, link_of, links_in, list_in, loose, number_before}
use Rattle.page_tables.specs.Places.{places_in}
use Rattle.page_tables.specs.Threads.{head_of, IsMember, IsThreaded}
use Rattle.page_tables.specs.declared.entry.Entry.{Entry}
use Rattle.page_tables.specs.declared.lists.Link.{Link}

pub length-links_in : (list : Option ℕ) (n : ℕ) (xs : List Link) → length xs ≤ n → length (links_in list n xs) ≡ n
length-links_in list n xs few =
    let rest : List Link = map (first_link list n) (range_with_len (length xs) (n - length xs)) in
    omega (arith, few, length-append xs rest, length-map-range_with_len (first_link list n) (length xs) (n - length xs))

-- a link that isn't there
pub link_first : (list : Option ℕ) (n : ℕ) (xs : List Link) (i : ℕ) → length xs ≤ i → i < n → link_of (links_in list n xs) i ≡ first_link list n i
link_first list n xs i past below =
    get_or-append_right xs (map (first_link list n) (range_with_len (length xs) (n - length xs))) (length xs) i loose refl past
    ∙ get_or-map-range_with_len (first_link list n) (length xs) (n - length xs) (i - length xs) i loose (omega (arith, past, below)) (omega (arith, past))

-- a link that is there
pub link_there : (list : Option ℕ) (n : ℕ) (xs : List Link) (i : ℕ) (x : Link) → i < length xs → x ≡ get_or xs i x → x ≡ link_of (links_in list n xs) i
link_there list n xs i x h here =
    here ∙ get_or_default xs i x loose h
    ∙ sym (get_or_append_left xs (map (first_link list n) (range_with_len (length xs) (n - length xs))) loose i h)

-- one link more is there
pub link_more : (list : Option ℕ) (n : ℕ) (xs : List Link) → length xs < n
    → links_in list n (xs ++ first_link list n (length xs) ∷ []) ≡ links_in list n xs
link_more list n xs below =
    let f : ℕ → Link = first_link list n in
    let one : List Link = f (length xs) ∷ [] in
    let rest : ℕ → ℕ → List Link = λ from count. map f (range_with_len from count) in
    ap (λ (k : ℕ). (xs ++ one) ++ rest k (n - k)) (length_push xs (f (length xs)))
    ∙ append_assoc xs one (rest (length xs + 1) (n - (length xs + 1)))
    ∙ ap (λ (k : ℕ). xs ++ rest (length xs) k) (let more : suc (n - (length xs + 1)) ≡ n - length xs = omega (arith, below) in more)

pub link_set : (list : Option ℕ) (n : ℕ) (xs : List Link) (i : ℕ) (y : Link) → i < length xs → links_in list n (set xs i y) ≡ set (links_in list n xs) i y
link_set list n xs i y h =
    ap (λ (k : ℕ). set xs i y ++ map (first_link list n) (range_with_len k (n - k))) (length-set xs i y)
    ∙ sym (set-append_left xs (map (first_link list n) (range_with_len (length xs) (n - length xs))) i y h)

pub places_more : (n end : ℕ) (xs : List (Option Entry)) → length xs ≤ end → end ≤ n
    → places_in n (xs ++ replicate (end - length xs) None) ≡ places_in n xs
places_more n end xs more within =
    let none : ℕ → List (Option Entry) = λ k. replicate k None in
    let long : length (xs ++ none (end - length xs)) ≡ end = (let nothing : Option Entry = None in omega (arith, more, length-append xs (none (end - length xs)), length-replicate (end - length xs) nothing)) in
    ap (λ (k : ℕ). (xs ++ none (end - length xs)) ++ none (n - k)) long
    ∙ append_assoc xs (none (end - length xs)) (none (n - end))
    ∙ ap (λ (rest : List (Option Entry)). xs ++ rest) (replicate-append-replicate (end - length xs) (n - end) None)
    ∙ ap (λ (k : ℕ). xs ++ none k) (omega (arith, more, within))

pub place_set : (n : ℕ) (xs : List (Option Entry)) (i : ℕ) (y : Option Entry) → i < length xs → places_in n (set xs i y) ≡ set (places_in n xs) i y
place_set n xs i y h =
    ap (λ (k : ℕ). set xs i y ++ replicate (n - k) None) (length-set xs i y)
    ∙ sym (set-append_left xs (replicate (n - length xs) None) i y h)

-- the links of all entries where none was written
abbrev pub first_links : Option ℕ → ℕ → List Link
first_links list n = map (first_link list n) (range_with_len 0 n)

lists_from : (list : Option ℕ) (all from n : ℕ) → map list_in (map (first_link list all) (range_with_len from n)) ≡ replicate n list
lists_from list all from zero = refl
lists_from None all from (suc n) = ap (λ (on : List (Option ℕ)). None ∷ on) (lists_from None all (from + 1) n)
lists_from (Some list) all from (suc n) = ap (λ (on : List (Option ℕ)). Some list ∷ on) (lists_from (Some list) all (from + 1) n)

pub first_lists : (list : Option ℕ) (n : ℕ) → map list_in (first_links list n) ≡ replicate n list
first_lists list n = lists_from list n 0 n

loose_from : (all from n : ℕ) → map (first_link None all) (range_with_len from n) ≡ replicate n loose
loose_from all from zero = refl
loose_from all from (suc n) = ap (λ (links : List Link). loose ∷ links) (loose_from all (from + 1) n)

pub first_loose : (n : ℕ) → first_links None n ≡ replicate n loose
first_loose n = loose_from n 0 n

first_at : (n i : ℕ) → i < n → link_of (first_links (Some 0) n) i ≡ first_link (Some 0) n i
first_at n i h = get_or-map-range_with_len (first_link (Some 0) n) 0 n i i loose h (omega arith)

-- an entry that is on a list is one of them, and its list is the first
on_first : (n i list : ℕ) → (link_of (first_links (Some 0) n) i).list ≡ Some list → (i < n) × (list ≡ 0)
on_first n i list e = elim (cases_lt i n) [
  | inl h ↦ (let on : Some 0 ≡ Some list = sym (ap (λ (l : Link). l.list) (first_at n i h)) ∙ e in (h, cc))
  | inr past ↦ (let gone : link_of (first_links (Some 0) n) i ≡ loose = get_or_past (first_links (Some 0) n) i loose (omega (arith, past, length-map-range_with_len (first_link (Some 0) n) 0 n)) in
      let none : None ≡ Some list = sym (ap (λ (l : Link). l.list) gone) ∙ e in absurd (cc))
]

first_some : (n i : ℕ) → first_of n ≡ Some i → (i ≡ 0) × (0 < n)
first_some zero i e = absurd (cc)
first_some (suc n) i e = (let zero_is : i ≡ 0 = cc in (zero_is, omega arith))

first_there : (n : ℕ) → 0 < n → first_of n ≡ Some 0
first_there zero h = absurd (omega arith)
first_there (suc n) h = refl

before_none : (i : ℕ) → number_before i ≡ None → i ≡ 0
before_none zero e = refl
before_none (suc k) e = absurd (cc)

before_some : (i b : ℕ) → number_before i ≡ Some b → i ≡ b + 1
before_some zero b e = absurd (cc)
before_some (suc k) b e = (let same : k ≡ b = cc in omega (arith, same))

before_next : (b i : ℕ) → i ≡ b + 1 → number_before i ≡ Some b
before_next b zero e = absurd (omega (arith, e))
before_next b (suc k) e = (let same : k ≡ b = omega (arith, e) in ap (λ (n : ℕ). Some n) same)

behind_some : (n i b : ℕ) → (if nat_lt (i + 1) n then Some (i + 1) else None) ≡ Some b → (b ≡ i + 1) × (i + 1 < n)
behind_some n i b e = elim (cases_lt (i + 1) n) [
  | inl h ↦ (let at : Some (i + 1) ≡ Some b = sym (cond-true (nat_lt (i + 1) n) (Some (i + 1)) None (lt-ltb (i + 1) n h)) ∙ e in (cc, h))
  | inr past ↦ (let none : None ≡ Some b = sym (cond-false (nat_lt (i + 1) n) (Some (i + 1)) None (le-ltb (i + 1) n past)) ∙ e in absurd (cc))
]

first_member : (lists n list i : ℕ) → 0 < lists → (link_of (first_links (Some 0) n) i).list ≡ Some list
    → IsMember (set (replicate lists None) 0 (first_of n)) (first_links (Some 0) n) (λ k. k) list i
first_member lists n list i some on =
    let none : Option ℕ = None in
    let heads : List (Option ℕ) = set (replicate lists none) 0 (first_of n) in
    let p = on_first n i list on in
    let of : (k : ℕ) → k < n → (link_of (first_links (Some 0) n) k).list ≡ Some list =
    λ k h. ap (λ (l : Link). l.list) (first_at n k h) ∙ ap (λ (j : ℕ). Some j) (sym p.1) in
    record {
      known = omega (arith, some, p.1, length-set (replicate lists none) 0 (first_of n), length-replicate lists none);
      front = λ e. let zero_is : i ≡ 0 = before_none i (sym (ap (λ (l : Link). l.before) (first_at n i p.0)) ∙ e) in
          ap (head_of heads) p.1
          ∙ get_or-set_same (replicate lists none) 0 (first_of n) none (omega (arith, some, length-replicate lists none))
          ∙ first_there n (omega (arith, p.0)) ∙ ap (λ (j : ℕ). Some j) (sym zero_is);
      before = λ b e. let next : i ≡ b + 1 = before_some i b (sym (ap (λ (l : Link). l.before) (first_at n i p.0)) ∙ e) in
          let h : b < n = omega (arith, next, p.0) in (
            of b h,
            ap (λ (l : Link). l.behind) (first_at n b h)
                ∙ cond-true (nat_lt (b + 1) n) (Some (b + 1)) None (lt-ltb (b + 1) n (omega (arith, next, p.0)))
                ∙ ap (λ (j : ℕ). Some j) (sym next),
            omega (arith, next),
          );
      behind = λ b e. let next = behind_some n i b (sym (ap (λ (l : Link). l.behind) (first_at n i p.0)) ∙ e) in
          let h : b < n = omega (arith, next.0, next.1) in
          (of b h, ap (λ (l : Link). l.before) (first_at n b h) ∙ before_next i b next.0);
    }

-- all entries are on the first list, in their order
pub first_threaded : (lists n : ℕ) → 0 < lists → n ≤ 2 ^ 18
    → IsThreaded (set (replicate lists None) 0 (first_of n)) (set (replicate lists 0) 0 n) (first_links (Some 0) n)
first_threaded lists n some few =
    let none : Option ℕ = None in
    let zero_of : ℕ = 0 in
    let long = length-replicate lists zero_of in
    let size = length-replicate lists none in
    let heads : List (Option ℕ) = set (replicate lists none) 0 (first_of n) in
    let head : head_of heads 0 ≡ first_of n = get_or-set_same (replicate lists none) 0 (first_of n) none (omega (arith, some, size)) in
    record {
      rank = λ k. k;
      few = omega (arith, few, length-map-range_with_len (first_link (Some 0) n) 0 n);
      counts_length = omega (arith, long, size, length-set (replicate lists zero_of) 0 n, length-set (replicate lists none) 0 (first_of n));
      counted = λ list known. elim (cases_eq list 0) [
        | inl e ↦ ap (λ (k : ℕ). get_or (set (replicate lists zero_of) 0 n) k 0) e
            ∙ get_or-set_same (replicate lists zero_of) 0 n 0 (omega (arith, some, long))
            ∙ sym (ap (count_by (is_on list)) (first_lists (Some 0) n) ∙ ap (λ (k : ℕ). count_by (is_on k) (replicate n (Some 0))) e ∙ all_on n)
        | inr ne ↦ get_or-set_other (replicate lists zero_of) 0 list n 0 ne ∙ same_all lists zero_of list
            ∙ sym (ap (count_by (is_on list)) (first_lists (Some 0) n) ∙ count-replicate_none (is_on list) n (Some 0) (other_number 0 list (λ e. ne (sym e))))
      ];
      first = λ list i e. elim (cases_eq list 0) [
        | inl z ↦ (let p = first_some n i (sym head ∙ ap (head_of heads) (sym z) ∙ e) in
            let at = first_at n i (omega (arith, p.0, p.1)) in
            (ap (λ (l : Link). l.list) at ∙ ap (λ (k : ℕ). Some k) (sym z), ap (λ (l : Link). l.before) at ∙ ap number_before p.0))
        | inr ne ↦ (let gone : none ≡ Some i = sym (get_or-set_other (replicate lists none) 0 list (first_of n) none ne ∙ same_all lists none list) ∙ e in absurd (cc))
      ];
      members = λ list i on. first_member lists n list i some on;
    } where
      all_on : (k : ℕ) → count_by (is_on 0) (replicate k (Some 0)) ≡ k
      all_on zero = refl
      all_on (suc k) = omega (arith, count_cons (is_on 0) (Some 0) (replicate k (Some 0)), bit_true (is_on 0 (Some 0)) (same_number 0), all_on k)
