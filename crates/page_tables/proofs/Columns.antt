-- Links column by column: what a write of one neighbour changes, and what it leaves.
use Rattle.std.proofs.Common.{◌≡◌, ◌≢◌, ℕ, ◌<◌, List, length, set, map, Option, Some, None, refl, sym, ap, ◌∙◌, arith, inl, inr, ◌⊎◌, length-set}
use Rattle.std.proofs.lemmas.Bool.{cases_eq, cases_lt}
use Rattle.std.proofs.lemmas.List.{get_or-set_same, get_or-set_other, get_or_past}
use Rattle.std.proofs.Math.Seq.{map-set_same}
use Rattle.page_tables.specs.Links.{list_in, loose, link_of, with_before, with_behind, heads_past}
use Rattle.page_tables.specs.Threads.{head_of}
use Rattle.page_tables.specs.declared.lists.Link.{Link}

-- an option is this number, or it isn't
pub is_this : (o : Option ℕ) (i : ℕ) → (o ≡ Some i) ⊎ (o ≢ Some i)
is_this None i = inr (λ e. absurd (cc))
is_this (Some b) i = elim (cases_eq b i) [
  | inl e ↦ inl (ap (λ (x : ℕ). Some x) e)
  | inr d ↦ inr (λ e. d (cc))
]

pub on_below : (links : List Link) (i list : ℕ) → (link_of links i).list ≡ Some list → i < length links
on_below links i list e = elim (cases_lt i (length links)) [
  | inl b ↦ b
  | inr b ↦ (let past : (link_of links i).list ≡ None = ap (λ (l : Link). l.list) (get_or_past links i loose b) in absurd (cc))
]

pub length-with_before : (links : List Link) (at b : Option ℕ) → length (with_before links at b) ≡ length links
length-with_before links None b = refl
length-with_before links (Some e) b = length-set links e (record (link_of links e) { before = b })

pub length-with_behind : (links : List Link) (at b : Option ℕ) → length (with_behind links at b) ≡ length links
length-with_behind links None b = refl
length-with_behind links (Some e) b = length-set links e (record (link_of links e) { behind = b })

pub lists-with_before : (links : List Link) (at b : Option ℕ) → map list_in (with_before links at b) ≡ map list_in links
lists-with_before links None b = refl
lists-with_before links (Some e) b = map-set_same list_in links e (record (link_of links e) { before = b }) loose refl

pub lists-with_behind : (links : List Link) (at b : Option ℕ) → map list_in (with_behind links at b) ≡ map list_in links
lists-with_behind links None b = refl
lists-with_behind links (Some e) b = map-set_same list_in links e (record (link_of links e) { behind = b }) loose refl

-- a column that a write leaves
column-set : {X : Type 0} (f : Link → X) (links : List Link) (e i : ℕ) (y : Link) → f y ≡ f (link_of links e) → f (link_of (set links e y) i) ≡ f (link_of links i)
column-set f links e i y same = elim (cases_eq i e) [
  | inr d ↦ ap f (get_or-set_other links e i y loose d)
  | inl k ↦ elim (cases_lt e (length links)) [
    | inl b ↦ (let at : link_of (set links e y) e ≡ y = get_or-set_same links e y loose b in
        ap (λ (n : ℕ). f (link_of (set links e y) n)) k ∙ ap f at ∙ same ∙ ap (λ (n : ℕ). f (link_of links n)) (sym k))
    | inr b ↦ (let past : link_of (set links e y) i ≡ loose = get_or_past (set links e y) i loose (omega (arith, length-set links e y)) in
        let was : link_of links i ≡ loose = get_or_past links i loose (omega arith) in
        ap f (past ∙ sym was))
  ]
]

pub list-with_before : (links : List Link) (at b : Option ℕ) (i : ℕ) → (link_of (with_before links at b) i).list ≡ (link_of links i).list
list-with_before links None b i = refl
list-with_before links (Some e) b i = column-set (λ (l : Link). l.list) links e i (record (link_of links e) { before = b }) refl

pub behind-with_before : (links : List Link) (at b : Option ℕ) (i : ℕ) → (link_of (with_before links at b) i).behind ≡ (link_of links i).behind
behind-with_before links None b i = refl
behind-with_before links (Some e) b i = column-set (λ (l : Link). l.behind) links e i (record (link_of links e) { before = b }) refl

pub list-with_behind : (links : List Link) (at b : Option ℕ) (i : ℕ) → (link_of (with_behind links at b) i).list ≡ (link_of links i).list
list-with_behind links None b i = refl
list-with_behind links (Some e) b i = column-set (λ (l : Link). l.list) links e i (record (link_of links e) { behind = b }) refl

pub before-with_behind : (links : List Link) (at b : Option ℕ) (i : ℕ) → (link_of (with_behind links at b) i).before ≡ (link_of links i).before
before-with_behind links None b i = refl
before-with_behind links (Some e) b i = column-set (λ (l : Link). l.before) links e i (record (link_of links e) { behind = b }) refl

pub before-with_before-hit : (links : List Link) (at b : Option ℕ) (i : ℕ) → at ≡ Some i → i < length links → (link_of (with_before links at b) i).before ≡ b
before-with_before-hit links None b i e h = absurd (cc)
before-with_before-hit links (Some k) b i e h =
    let same : k ≡ i = cc in
    ap (λ (n : ℕ). (link_of (with_before links (Some k) b) n).before) (sym same) ∙ ap (λ (l : Link). l.before) (get_or-set_same links k (record (link_of links k) { before = b }) loose (omega arith))

pub before-with_before-miss : (links : List Link) (at b : Option ℕ) (i : ℕ) → at ≢ Some i → (link_of (with_before links at b) i).before ≡ (link_of links i).before
before-with_before-miss links None b i d = refl
before-with_before-miss links (Some k) b i d =
    let other : i ≢ k = λ e. d (ap (λ (x : ℕ). Some x) (sym e)) in
    ap (λ (l : Link). l.before) (get_or-set_other links k i (record (link_of links k) { before = b }) loose other)

pub behind-with_behind-hit : (links : List Link) (at b : Option ℕ) (i : ℕ) → at ≡ Some i → i < length links → (link_of (with_behind links at b) i).behind ≡ b
behind-with_behind-hit links None b i e h = absurd (cc)
behind-with_behind-hit links (Some k) b i e h =
    let same : k ≡ i = cc in
    ap (λ (n : ℕ). (link_of (with_behind links (Some k) b) n).behind) (sym same) ∙ ap (λ (l : Link). l.behind) (get_or-set_same links k (record (link_of links k) { behind = b }) loose (omega arith))

pub behind-with_behind-miss : (links : List Link) (at b : Option ℕ) (i : ℕ) → at ≢ Some i → (link_of (with_behind links at b) i).behind ≡ (link_of links i).behind
behind-with_behind-miss links None b i d = refl
behind-with_behind-miss links (Some k) b i d =
    let other : i ≢ k = λ e. d (ap (λ (x : ℕ). Some x) (sym e)) in
    ap (λ (l : Link). l.behind) (get_or-set_other links k i (record (link_of links k) { behind = b }) loose other)

pub length-heads_past : (heads : List (Option ℕ)) (list : ℕ) (b a : Option ℕ) → length (heads_past heads list b a) ≡ length heads
length-heads_past heads list None a = length-set heads list a
length-heads_past heads list (Some _) a = refl

pub heads_past-at : (heads : List (Option ℕ)) (list : ℕ) (b a : Option ℕ) → list < length heads → b ≡ None → head_of (heads_past heads list b a) list ≡ a
heads_past-at heads list None a h e = get_or-set_same heads list a None h
heads_past-at heads list (Some _) a h e = absurd (cc)

pub heads_past-other : (heads : List (Option ℕ)) (list : ℕ) (b a : Option ℕ) (k : ℕ) → k ≢ list → head_of (heads_past heads list b a) k ≡ head_of heads k
heads_past-other heads list None a k d = get_or-set_other heads list k a None d
heads_past-other heads list (Some _) a k d = refl

pub heads_past-kept : (heads : List (Option ℕ)) (list : ℕ) (b a : Option ℕ) (k : ℕ) → b ≢ None → head_of (heads_past heads list b a) k ≡ head_of heads k
heads_past-kept heads list None a k d = absurd (d refl)
heads_past-kept heads list (Some _) a k d = refl
