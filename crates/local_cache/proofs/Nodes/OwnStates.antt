-- The list of own states, under a change of one node and when a node is made.
use Rattle.std.proofs.Common.{◌≡◌, ◌≢◌, ℕ, suc, ◌+◌, ◌<◌, ◌≤◌, Bool, true, false, cond, ◌&&◌, List, [], ◌∷◌, length, get_or, set, map, Option, Some, None, IsSome, is_some, unwrap_or, refl, sym, ap, ◌∙◌, inl, inr, arith, ◌⊎◌, zero-add, length-set}
use Rattle.std.specs.Prelude.{T}
use Rattle.std.specs.List.{count_by}
use Rattle.std.specs.Ordering.{nat_cmp, is_eq}
use Rattle.std.specs.Cmp.{nat_cmp_total}
use Rattle.std.specs.FinMap.{FinMap, entries, entries_sorted, entries-insert, get-entries, get-insert, len-entries, len-insert, values}
use Rattle.std.specs.FinMap as ids
use Rattle.std.specs.FinMap.Entries.{find, put, is_sorted, by_order, length-put}
use Rattle.std.specs.declared.cmp.Ordering.{Ordering}
use Rattle.std.specs.declared.cmp.Ordering.TheVariants.{Less, Equal, Greater}
use Rattle.std.proofs.lemmas.List.{map-set, get_or-map, length-map}
use Rattle.std.proofs.lemmas.Bool.{false≢true, cases_eq}
use Rattle.vm_ids.specs.declared.numbers.NodeId.{NodeId}
use Rattle.vm_ids.proofs.Places.{bit, count-set, count_cons, count_not_all, count_some}
use Rattle.local_cache.specs.declared.own_state.OwnState.{OwnState}
use Rattle.local_cache.specs.declared.own_state.OwnState.TheVariants.{Absent}
use Rattle.vm_ids.specs.declared.node_name.NodeName.TheVariants.{Live}
use Rattle.vm_ids.specs.declared.numbers.CacheId.{CacheId}
use Rattle.local_cache.specs.Arena as arena
use Rattle.local_cache.specs.Arena.{Arena, Cell, IsFilled, HasNode, blank, cell, new_cell, with_own}
use Rattle.local_cache.specs.Own.{own_of, own_states}
use Rattle.local_cache.proofs.Nodes.Cells.{cell-put, cell-put_other}
use Rattle.local_cache.proofs.Nodes.Numbers.{tied, apart}

second : (a b : Bool) → T (a && b) → T b
second true b p = p
second false b p = absurd p

module _ {X : Type 0} where
  abbrev seconds : List (ℕ × X) → List X
  seconds es = map (λ e. e.1) es

  -- where a value stands among the values, and that another at its key takes that place
  pub record Place (es : List (ℕ × X)) (k : ℕ) (c : X) : Type 0 where
    pub at : ℕ
    pub within : at < length (seconds es)
    pub is : get_or (seconds es) at c ≡ c
    pub puts : (v : X) → seconds (put nat_cmp k v es) ≡ set (seconds es) at v

  place_step : (e : ℕ × X) (es : List (ℕ × X)) (k : ℕ) (c : X) (r : Ordering) → nat_cmp k e.0 ≡ r → T (is_sorted nat_cmp (e ∷ es)) → find nat_cmp k (e ∷ es) ≡ Some c → (find nat_cmp k es ≡ Some c → Place es k c) → Place (e ∷ es) k c
  place_step e es k c Less is sorted found rest =
      let longer : length (put nat_cmp k c (e ∷ es)) ≡ suc (suc (length es)) = ap (λ (r : Ordering). length (by_order r ((k, c) ∷ e ∷ es) ((e.0, c) ∷ es) (e ∷ put nat_cmp k c es))) is in
      let same : length (put nat_cmp k c (e ∷ es)) ≡ suc (length es) = length-put nat_cmp nat_cmp_total k c (e ∷ es) sorted ∙ ap (λ (o : Option X). cond (is_some o) (length (e ∷ es)) (length (e ∷ es) + 1)) found in
      absurd (omega arith)
  place_step e es k c Equal is sorted found rest =
      let here : Some e.1 ≡ Some c = sym (ap (λ (r : Ordering). cond (is_eq r) (Some e.1) (find nat_cmp k es)) is) ∙ found in
      record {
        at = 0;
        within = omega arith;
        is = cc;
        puts = λ v. ap (λ (r : Ordering). seconds (by_order r ((k, v) ∷ e ∷ es) ((e.0, v) ∷ es) (e ∷ put nat_cmp k v es))) is;
      }
  place_step e es k c Greater is sorted found rest =
      let p : Place es k c = rest (sym (ap (λ (r : Ordering). cond (is_eq r) (Some e.1) (find nat_cmp k es)) is) ∙ found) in
      record {
        at = suc p.at;
        within = omega (arith, p.within);
        is = p.is;
        puts = λ v. ap (λ (r : Ordering). seconds (by_order r ((k, v) ∷ e ∷ es) ((e.0, v) ∷ es) (e ∷ put nat_cmp k v es))) is ∙ ap (λ (xs : List X). e.1 ∷ xs) (p.puts v);
      }

  place : (es : List (ℕ × X)) (k : ℕ) (c : X) → T (is_sorted nat_cmp es) → find nat_cmp k es ≡ Some c → Place es k c
  place [] k c sorted found = absurd (cc)
  place (e ∷ es) k c sorted found = place_step e es k c (nat_cmp k e.0) refl sorted found (place es k c (second _ _ sorted))

  fresh_step : (p : X → Bool) (e : ℕ × X) (es : List (ℕ × X)) (k : ℕ) (v : X) (r : Ordering) → nat_cmp k e.0 ≡ r → find nat_cmp k (e ∷ es) ≡ None → (find nat_cmp k es ≡ None → count_by p (seconds (put nat_cmp k v es)) ≡ bit (p v) + count_by p (seconds es))
      → count_by p (seconds (put nat_cmp k v (e ∷ es))) ≡ bit (p v) + count_by p (seconds (e ∷ es))
  fresh_step p e es k v Less is none rest =
      ap (λ (r : Ordering). count_by p (seconds (by_order r ((k, v) ∷ e ∷ es) ((e.0, v) ∷ es) (e ∷ put nat_cmp k v es)))) is ∙ count_cons p v (seconds (e ∷ es))
  fresh_step p e es k v Equal is none rest =
      let here : Some e.1 ≡ None = sym (ap (λ (r : Ordering). cond (is_eq r) (Some e.1) (find nat_cmp k es)) is) ∙ none in absurd (cc)
  fresh_step p e es k v Greater is none rest =
      let more : count_by p (seconds (put nat_cmp k v es)) ≡ bit (p v) + count_by p (seconds es) = rest (sym (ap (λ (r : Ordering). cond (is_eq r) (Some e.1) (find nat_cmp k es)) is) ∙ none) in
      ap (λ (r : Ordering). count_by p (seconds (by_order r ((k, v) ∷ e ∷ es) ((e.0, v) ∷ es) (e ∷ put nat_cmp k v es)))) is
      ∙ count_cons p e.1 (seconds (put nat_cmp k v es))
      ∙ omega (arith, count_cons p e.1 (seconds es))

  -- a value at a new key is one value more
  pub fresh : (p : X → Bool) (es : List (ℕ × X)) (k : ℕ) (v : X) → find nat_cmp k es ≡ None → count_by p (seconds (put nat_cmp k v es)) ≡ bit (p v) + count_by p (seconds es)
  fresh p [] k v none = count_cons p v []
  fresh p (e ∷ es) k v none = fresh_step p e es k v (nat_cmp k e.0) refl none (fresh p es k v)

-- where the own state of a node stands, and that another takes its place
pub record IsAt (a : Arena) (n : NodeId) : Type 0 where
  pub place : ℕ
  pub within : place < length (own_states a)
  pub is : get_or (own_states a) place Absent ≡ own_of a n
  pub puts : (s : OwnState) → own_states (with_own a n s) ≡ set (own_states a) place s

whole : (o : Option Cell) → IsSome o → o ≡ Some (unwrap_or o blank)
whole None h = absurd (false≢true h)
whole (Some c) h = refl

pub standing : (a : Arena) (n : NodeId) → HasNode a n → IsAt a n
unfolding cell arena.put
standing a n held =
    let p : Place (entries a.cells) n.0 (cell a n) = place (entries a.cells) n.0 (cell a n) (entries_sorted a.cells) (sym (get-entries a.cells n.0) ∙ whole (ids.get a.cells n.0) held) in
    let own : Cell → OwnState = λ c. c.own in
    record {
      place = p.at;
      within = omega (arith, p.within, length-map (values a.cells) own);
      is = get_or-map own (values a.cells) p.at (cell a n) Absent p.within ∙ ap own p.is;
      puts = λ s. ap (λ (es : List (ℕ × Cell)). map own (seconds es)) (entries-insert nat_cmp_total a.cells n.0 (record (cell a n) { own = s }))
          ∙ ap (map own) (p.puts (record (cell a n) { own = s }))
          ∙ map-set own (values a.cells) p.at (record (cell a n) { own = s });
    }

held_by : (o : Option Cell) → IsSome o ⊎ ((unwrap_or o blank).own ≡ Absent)
held_by None = inr refl
held_by (Some c) = inl refl

-- what isn't a node has no own page
pub held_or_absent : (a : Arena) (n : NodeId) → HasNode a n ⊎ (own_of a n ≡ Absent)
unfolding cell
held_or_absent a n = held_by (ids.get a.cells n.0)

-- the own states after a cache was made
abbrev states_in : FinMap nat_cmp Cell → List OwnState
states_in cells = map (λ c. c.own) (values cells)

abbrev own_in : FinMap nat_cmp Cell → ℕ → OwnState
own_in cells k = (unwrap_or (ids.get cells k) blank).own

pub filled_count : (ns : List NodeId) (cells : FinMap nat_cmp Cell) (page : ℕ) (after : FinMap nat_cmp Cell) (cache : CacheId) (own : OwnState) (p : OwnState → Bool) → IsFilled cells cache page own ns after → p own ≡ false
    → count_by p (states_in after) ≡ count_by p (states_in cells)
filled_count [] cells page after cache own p f out = ap (λ (m : FinMap nat_cmp Cell). count_by p (states_in m)) f
filled_count (n ∷ ns) cells page after cache own p f out =
    let c : Cell = new_cell (Live cache (record { 0 = page })) own in
    let one : count_by p (states_in (ids.insert cells n.0 c)) ≡ count_by p (states_in cells) = inserted_count cells n.0 c p f.0 out in
    filled_count ns (ids.insert cells n.0 c) (page + 1) after cache own p f.1 out ∙ one
  where
    mapped : (p : OwnState → Bool) (es : List (ℕ × Cell)) → count_by p (map (λ c. c.own) (seconds es)) ≡ count_by (λ (c : Cell). p c.own) (seconds es)
    mapped p [] = refl
    mapped p (e ∷ es) = count_cons p e.1.own (map (λ c. c.own) (seconds es)) ∙ ap (λ (k : ℕ). bit (p e.1.own) + k) (mapped p es) ∙ sym (count_cons (λ (c : Cell). p c.own) e.1 (seconds es))

    inserted_count : (cells : FinMap nat_cmp Cell) (k : ℕ) (c : Cell) (p : OwnState → Bool) → ids.get cells k ≡ None → p c.own ≡ false → count_by p (states_in (ids.insert cells k c)) ≡ count_by p (states_in cells)
    inserted_count cells k c p none out =
        mapped p (entries (ids.insert cells k c))
        ∙ ap (λ (es : List (ℕ × Cell)). count_by (λ (c : Cell). p c.own) (seconds es)) (entries-insert nat_cmp_total cells k c)
        ∙ fresh (λ (c : Cell). p c.own) (entries cells) k c (sym (get-entries cells k) ∙ none)
        ∙ ap (λ (b : Bool). bit b + count_by (λ (c : Cell). p c.own) (values cells)) out
        ∙ zero-add (count_by (λ (c : Cell). p c.own) (values cells))
        ∙ sym (mapped p (entries cells))

pub filled_length : (ns : List NodeId) (cells : FinMap nat_cmp Cell) (page : ℕ) (after : FinMap nat_cmp Cell) (cache : CacheId) (own : OwnState) → IsFilled cells cache page own ns after
    → length (states_in after) ≡ length (states_in cells) + length ns
filled_length [] cells page after cache own f = ap (λ (m : FinMap nat_cmp Cell). length (states_in m)) f ∙ omega arith
filled_length (n ∷ ns) cells page after cache own f =
    let c : Cell = new_cell (Live cache (record { 0 = page })) own in
    let one : ids.len (ids.insert cells n.0 c) ≡ ids.len cells + 1 = len-insert nat_cmp_total cells n.0 c ∙ ap (λ (o : Option Cell). cond (is_some o) (ids.len cells) (ids.len cells + 1)) f.0 in
    let rest : length (states_in after) ≡ length (states_in (ids.insert cells n.0 c)) + length ns = filled_length ns (ids.insert cells n.0 c) (page + 1) after cache own f.1 in
    omega (arith, counted cells, counted (ids.insert cells n.0 c))
  where
    counted : (cells : FinMap nat_cmp Cell) → length (states_in cells) ≡ ids.len cells
    counted cells = length-map (values cells) (λ c. c.own) ∙ length-map (entries cells) (λ e. e.1) ∙ sym (len-entries cells)

-- what is read alike of no node and of the new nodes is read of each node as before
pub filled_cell : {X : Type 0} (ns : List NodeId) (cells : FinMap nat_cmp Cell) (page : ℕ) (after : FinMap nat_cmp Cell) (cache : CacheId) (own : OwnState) (read : Cell → X) (k : ℕ) → IsFilled cells cache page own ns after
    → ((p : ℕ) → read (new_cell (Live cache (record { 0 = p })) own) ≡ read blank) → read (unwrap_or (ids.get after k) blank) ≡ read (unwrap_or (ids.get cells k) blank)
filled_cell [] cells page after cache own read k is alike = ap (λ (m : FinMap nat_cmp Cell). read (unwrap_or (ids.get m k) blank)) is
filled_cell (n ∷ ns) cells page after cache own read k is alike =
    let c : Cell = new_cell (Live cache (record { 0 = page })) own in
    filled_cell ns (ids.insert cells n.0 c) (page + 1) after cache own read k is.1 alike
    ∙ ap (λ (o : Option Cell). read (unwrap_or o blank)) (get-insert nat_cmp_total cells n.0 c k)
    ∙ elim (cases_eq k n.0) [
      | inl e ↦ ap (λ (b : Bool). read (unwrap_or (cond b (Some c) (ids.get cells k)) blank)) (tied k n.0 e) ∙ alike page ∙ sym (ap (λ (o : Option Cell). read (unwrap_or o blank)) (ap (ids.get cells) e ∙ is.0))
      | inr d ↦ ap (λ (b : Bool). read (unwrap_or (cond b (Some c) (ids.get cells k)) blank)) (apart k n.0 d)
    ]

-- what holds alike of Absent and of the new own states holds of each node as before
pub filled_own : {X : Type 0} (ns : List NodeId) (cells : FinMap nat_cmp Cell) (page : ℕ) (after : FinMap nat_cmp Cell) (cache : CacheId) (own : OwnState) (f : OwnState → X) (k : ℕ) → IsFilled cells cache page own ns after → f own ≡ f Absent
    → f (own_in after k) ≡ f (own_in cells k)
filled_own ns cells page after cache own f k is alike = filled_cell ns cells page after cache own (λ c. f c.own) k is (λ _. alike)

-- counts of own states under a change of one node
pub own_count : (p : OwnState → Bool) (a : Arena) (n : NodeId) (s : OwnState) → HasNode a n → count_by p (own_states (with_own a n s)) + bit (p (own_of a n)) ≡ count_by p (own_states a) + bit (p s)
own_count p a n s held =
    let at : IsAt a n = standing a n held in
    ap (λ (xs : List OwnState). count_by p xs + bit (p (own_of a n))) (at.puts s)
    ∙ ap (λ (x : OwnState). count_by p (set (own_states a) at.place s) + bit (p x)) (sym at.is)
    ∙ count-set p (own_states a) at.place s Absent at.within

pub own_length : (a : Arena) (n : NodeId) (s : OwnState) → HasNode a n → length (own_states (with_own a n s)) ≡ length (own_states a)
own_length a n s held =
    let at : IsAt a n = standing a n held in
    ap (λ (xs : List OwnState). length xs) (at.puts s) ∙ length-set (own_states a) at.place s

pub own_some : (p : OwnState → Bool) (a : Arena) (n : NodeId) → HasNode a n → p (own_of a n) ≡ true → 1 ≤ count_by p (own_states a)
own_some p a n held passes =
    let at : IsAt a n = standing a n held in
    count_some p (own_states a) at.place Absent at.within (ap p at.is ∙ passes)

pub own_not_all : (p : OwnState → Bool) (a : Arena) (n : NodeId) → HasNode a n → p (own_of a n) ≡ false → count_by p (own_states a) < length (own_states a)
own_not_all p a n held fails =
    let at : IsAt a n = standing a n held in
    count_not_all p (own_states a) at.place Absent at.within (ap p at.is ∙ fails)

-- what passes a test that Absent doesn't is a node
pub own_held : (p : OwnState → Bool) (a : Arena) (n : NodeId) → p Absent ≡ false → p (own_of a n) ≡ true → HasNode a n
own_held p a n out passes = elim (held_or_absent a n) [
  | inl held ↦ held
  | inr absent ↦ (let no_pass : p (own_of a n) ≡ false = ap p absent ∙ out in absurd (cc))
]

pub own_same : (a : Arena) (n : NodeId) (s : OwnState) → own_of (with_own a n s) n ≡ s
own_same a n s = ap (λ (c : Cell). c.own) (cell-put a n (record (cell a n) { own = s }))

pub own_other : (a : Arena) (n m : NodeId) (s : OwnState) → m ≢ n → own_of (with_own a n s) m ≡ own_of a m
own_other a n m s d = ap (λ (c : Cell). c.own) (cell-put_other a n m (record (cell a n) { own = s }) d)

pub id_cases : (m n : NodeId) → (m ≡ n) ⊎ (m ≢ n)
id_cases m n = elim (cases_eq m.0 n.0) [ inl e ↦ inl (λ i. record { 0 = e i }) | inr d ↦ inr (λ e. d (ap (λ k. k.0) e)) ]

pub id_apart : (m n : NodeId) → m ≢ n → m.0 ≢ n.0
id_apart m n d e = d (λ i. record { 0 = e i })
