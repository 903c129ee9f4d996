-- What is read of lists and links, and what it says of the whole.
use Rattle.std.proofs.Common.{◌≡◌, ◌≢◌, ℕ, zero, suc, [], ◌∷◌, ◌++◌, take, ◌^◌, ◌+◌, ◌-◌, ◌<◌, ◌≤◌, List, length, get_or, set, map, Option, Some, None, refl, sym, ap, ◌∙◌, subst, arith, inl, inr, replicate}
use Rattle.std.specs.Prelude.{count_by, MatchOption}
use Rattle.std.proofs.lemmas.Bool.{cases_lt}
use Rattle.std.proofs.lemmas.List.{get_or_default, get_or_past, get_or-map, length-map, length-replicate}
use Rattle.vm_ids.proofs.Places.{same_all, count-replicate_none}
use Rattle.page_tables.specs.Membership.{Membership, is_on}
use Rattle.page_tables.specs.Links.{list_in, loose, link_of, with_before, with_behind, heads_past}
use Rattle.page_tables.specs.Threads.{head_of, IsThreaded}
use Rattle.page_tables.specs.declared.lists.Link.{Link}
use Rattle.page_tables.proofs.Threading.{none_listed, taken_off, added}

-- what an index gave is what stands there
pub read_as : {X : Type 0} (xs : List X) (i : ℕ) (r d : X) → i < length xs → r ≡ get_or xs i r → get_or xs i d ≡ r
read_as xs i r d h e = get_or_default xs i d r h ∙ sym e

pub in_range : (xs : List (Option ℕ)) (i : ℕ) → get_or xs i None ≢ None → i < length xs
in_range xs i d = elim (cases_lt i (length xs)) [
  | inl b ↦ b
  | inr b ↦ absurd (d (get_or_past xs i None b))
]

pub listed : (links : List Link) (i : ℕ) → get_or (map list_in links) i None ≡ (link_of links i).list
listed links i = elim (cases_lt i (length links)) [
  | inl b ↦ get_or-map list_in links i loose None b
  | inr b ↦ get_or_past (map list_in links) i None (omega (arith, length-map links list_in)) ∙ sym (ap list_in (get_or_past links i loose b))
]

pub first_listed : (heads : List (Option ℕ)) (counts : List ℕ) (links : List Link) (list : ℕ) → IsThreaded heads counts links → (o : Option ℕ) → head_of heads list ≡ o → MatchOption o ((entry : ℕ) → get_or (map list_in links) entry None ≢ Some list) (λ entry. get_or (map list_in links) entry None ≡ Some list)
first_listed heads counts links list t None e = λ entry on. none_listed heads counts links t list e (t.rank entry + 1) entry (omega arith) (sym (listed links entry) ∙ on)
first_listed heads counts links list t (Some i) e = listed links i ∙ (t.first list i e).0

pub taken_off_by : (heads : List (Option ℕ)) (counts : List ℕ) (links : List Link) (list x : ℕ) (l : Link) (n : ℕ) → IsThreaded heads counts links → link_of links x ≡ l → l.list ≡ Some list → get_or counts list 0 ≡ n → IsThreaded (heads_past heads list l.before l.behind) (set counts list (n - 1)) (set (with_before (with_behind links l.before l.behind) l.behind l.before) x loose)
taken_off_by heads counts links list x l n t is onx count =
    let P : Link → ℕ → Type 0 = λ k m. IsThreaded (heads_past heads list k.before k.behind) (set counts list (m - 1)) (set (with_before (with_behind links k.before k.behind) k.behind k.before) x loose) in
    let own : (link_of links x).list ≡ Some list = ap (λ (k : Link). k.list) is ∙ onx in
    subst (λ (k : Link). P k n) is (subst (λ (m : ℕ). P (link_of links x) m) count (taken_off heads counts links list x t own))

pub added_by : (heads : List (Option ℕ)) (counts : List ℕ) (links : List Link) (list x : ℕ) (front : Option ℕ) (n : ℕ) → IsThreaded heads counts links → list < length heads → x < length links → (link_of links x).list ≡ None → head_of heads list ≡ front → get_or counts list 0 ≡ n → IsThreaded (set heads list (Some x)) (set counts list (n + 1)) (set (with_before links front (Some x)) x (record { list = Some list; before = None; behind = front }))
added_by heads counts links list x front n t h within loose_x is count =
    let P : Option ℕ → ℕ → Type 0 = λ o m. IsThreaded (set heads list (Some x)) (set counts list (m + 1)) (set (with_before links o (Some x)) x (record { list = Some list; before = None; behind = o })) in
    subst (λ (o : Option ℕ). P o n) is (subst (λ (m : ℕ). P (head_of heads list) m) count (added heads counts links list x t h within loose_x))

none_some : {o : Option ℕ} (n : ℕ) → o ≡ None → o ≡ Some n → ⊥
none_some n p q = (let z : None ≡ Some n = sym p ∙ q in absurd (cc))

pub map-replicate : {X Y : Type 0} (f : X → Y) (n : ℕ) (x : X) → map f (replicate n x) ≡ replicate n (f x)
map-replicate f zero x = refl
map-replicate f (suc n) x = ap (λ (ys : List _). f x ∷ ys) (map-replicate f n x)

-- two memberships of the same parts
pub same_membership : (l k : ℕ) (on of : List (Option ℕ)) → l ≡ k → on ≡ of → (let a : Membership = record { lists = l; on = on } in a) ≡ (let b : Membership = record { lists = k; on = of } in b)
same_membership l k on of e f =
    let by : Membership → Membership = λ m. m in
    ap (λ (n : ℕ). by (record { lists = n; on = on })) e ∙ ap (λ (o : List (Option ℕ)). by (record { lists = k; on = o })) f

-- a new list of so many copies
pub resized : {X : Type 0} (xs : List X) (n l : ℕ) (x : X) → xs ≡ [] → l ≡ 0 → take n xs ++ replicate (n - l) x ≡ replicate n x
resized {X = X} xs n l x none zero_len =
    let all : n - l ≡ n = omega arith in
    ap (λ (ys : List _). take n ys ++ replicate (n - l) x) none ∙ none_taken n (replicate (n - l) x) ∙ ap (λ (k : ℕ). replicate k x) all where
      none_taken : (k : ℕ) (ys : List X) → take k [] ++ ys ≡ ys
      none_taken zero ys = refl
      none_taken (suc k) ys = refl

-- empty lists of loose entries
pub empty_lists : (lists entries : ℕ) → entries ≤ 2 ^ 18 → IsThreaded (replicate lists None) (replicate lists 0) (replicate entries loose)
empty_lists lists entries few = record {
  rank = λ i. i;
  few = omega (arith, length-replicate entries loose);
  counts_length = omega (arith, length-replicate lists zero_of, length-replicate lists none_of);
  counted = λ list h. same_all lists 0 list ∙ sym (ap (count_by (is_on list)) (map-replicate list_in entries loose) ∙ count-replicate_none (is_on list) entries None refl);
  first = λ list i e. absurd (none_some i (same_all lists None list) e);
  members = λ list i e. absurd (none_some list (ap list_in (same_all entries loose i)) e);
} where
  zero_of : ℕ
  zero_of = 0

  none_of : Option ℕ
  none_of = None
