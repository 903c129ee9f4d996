-- The caches that segments name, in the tables and in the machine.
use Rattle.std.proofs.Common.{◌≡◌, ◌==◌, ℕ, zero, suc, ◌+◌, ◌<◌, Bool, true, false, cond, List, [], ◌∷◌, length, get_or, Option, Some, None, refl, sym, ap, ◌∙◌, arith}
use Rattle.std.specs.Prelude.{option_map, option_and_then, slice_get}
use Rattle.std.specs.Option.{option_map_or}
use Rattle.std.proofs.lemmas.Bool.Decides.{nat_tests}
use Rattle.vm_ids.specs.declared.numbers.SegId.{SegId}
use Rattle.vm_ids.specs.Forest.Commands.{page_name}
use Rattle.vm_ids.specs.Forest.Reading.{value_of}
use Rattle.local_cache.specs.Arena.{Arena, Table, table_at, table_of}
use Rattle.vm_model.specs.Machine.{Cache, Page, cache_named, is_named_by}
use Rattle.vm_model.specs.Machine as model
use Rattle.vm_model.specs.PageForest.{PageForest}
use Rattle.vm_model.specs.Pushing.{page_named}
use Rattle.pvm_core.specs.Manager.{AreApart, Manager, cache_shown, caches_shown, machine_by, shown}
use Rattle.pvm_core.proofs.Meaning.Shown.{get-pages, id_of, numbered-caches}

-- Tables of one segment

same_id : (s z : SegId) → (z.0 == s.0) ≡ true → z ≡ s
same_id s z e = (let q : z.0 ≡ s.0 = grind (arith, nat_tests) in λ i. record { 0 = q i })

other_segment : (o : Option SegId) (s : SegId) → (o ≡ Some s → ⊥) → option_map_or (λ (n : ℕ). n == s.0) (option_map (λ (z : SegId). z.0) o) false ≡ false
other_segment None s apart = refl
other_segment (Some z) s apart = go (z.0 == s.0) refl
  where
    go : (b : Bool) → (z.0 == s.0) ≡ b → (z.0 == s.0) ≡ false
    go false e = e
    go true e = absurd (apart (ap (λ (s : SegId). Some s) (same_id s z e)))

is_itself : (s : SegId) → (s.0 == s.0) ≡ true
is_itself s = grind (arith, nat_tests)

not_named : (f : PageForest) (n : ℕ) (o : Option Table) (s : SegId) → ((t : Table) → o ≡ Some t → t.segment ≡ Some s → ⊥) → is_named_by s.0 (option_map (cache_shown f n) o) ≡ false
not_named f n None s apart = refl
not_named f n (Some t) s apart = other_segment t.segment s (λ e. apart t refl e)

named_here : (f : PageForest) (n : ℕ) (t : Table) (s : SegId) → t.segment ≡ Some s → is_named_by s.0 (Some (cache_shown f n t)) ≡ true
named_here f n t s e = ap (λ o. option_map_or (λ (n : ℕ). n == s.0) (option_map (λ (z : SegId). z.0) o) false) e ∙ is_itself s

-- the one cache that a segment names is the one that the machine finds
pub named_found : (f : PageForest) (first : ℕ) (ts : List (Option Table)) (k : ℕ) (t : Table) (s : SegId) → get_or ts k None ≡ Some t → t.segment ≡ Some s → ((j : ℕ) (u : Table) → get_or ts j None ≡ Some u → u.segment ≡ Some s → j ≡ k)
    → cache_named (caches_shown f first ts) s.0 ≡ Some (cache_shown f (first + k) t)
named_found f first [] k t s e seg only = absurd (cc e)
named_found f first (o ∷ ts) zero t s e seg only =
    let c = option_map (cache_shown f first) o in
    let here : is_named_by s.0 c ≡ true = ap (λ o. is_named_by s.0 (option_map (cache_shown f first) o)) e ∙ named_here f first t s seg in
    ap (λ (b : Bool). cond b c (cache_named (caches_shown f (first + 1) ts) s.0)) here ∙ ap (option_map (cache_shown f first)) e
    ∙ ap (λ (n : ℕ). Some (cache_shown f n t)) (let q : first ≡ first + 0 = omega arith in q)
named_found f first (o ∷ ts) (suc k) t s e seg only =
    let c = option_map (cache_shown f first) o in
    let gone : is_named_by s.0 c ≡ false = not_named f first o s (λ u there of. (let q : 0 ≡ suc k = only 0 u there of in absurd (omega (arith, q)))) in
    ap (λ (b : Bool). cond b c (cache_named (caches_shown f (first + 1) ts) s.0)) gone
    ∙ named_found f (first + 1) ts k t s e seg (λ j u there of. (let q : suc j ≡ suc k = only (suc j) u there of in omega (arith, q)))
    ∙ ap (λ (n : ℕ). Some (cache_shown f n t)) (let q : first + 1 + k ≡ first + suc k = omega arith in q)

of_table : (f : PageForest) (n : ℕ) (seg : ℕ) (o : Option Table) → is_named_by seg (option_map (cache_shown f n) o) ≡ true → (t : Table) × (o ≡ Some t) × (t.segment ≡ Some (record { 0 = seg }))
of_table f n seg None e = absurd (cc e)
of_table f n seg (Some t) e = by_segment t.segment refl e
  where
    by_segment : (z : Option SegId) → t.segment ≡ z → option_map_or (λ (n : ℕ). n == seg) (option_map (λ (z : SegId). z.0) z) false ≡ true → (u : Table) × (Some t ≡ Some u) × (u.segment ≡ Some (record { 0 = seg }))
    by_segment None is e = absurd (cc e)
    by_segment (Some z) is e = (t, refl, is ∙ ap (λ (s : SegId). Some s) (same_id (record { 0 = seg }) z e))

-- a table with this segment, at its place
abbrev pub IsAt : List (Option Table) → ℕ → Type 0
IsAt ts seg = (k : ℕ) × (t : Table) × (get_or ts k None ≡ Some t) × (t.segment ≡ Some (record { 0 = seg }))

back_by : (f : PageForest) (first : ℕ) (o : Option Table) (ts : List (Option Table)) (seg : ℕ) (c : Cache) (b : Bool) → is_named_by seg (option_map (cache_shown f first) o) ≡ b
    → cond (is_named_by seg (option_map (cache_shown f first) o)) (option_map (cache_shown f first) o) (cache_named (caches_shown f (first + 1) ts) seg) ≡ Some c
    → (cache_named (caches_shown f (first + 1) ts) seg ≡ Some c → IsAt ts seg) → IsAt (o ∷ ts) seg
back_by f first o ts seg c true n e rest = (let q = of_table f first seg o n in (0, q.0, q.1, q.2))
back_by f first o ts seg c false n e rest =
    let r = rest (sym (ap (λ (b : Bool). cond b (option_map (cache_shown f first) o) (cache_named (caches_shown f (first + 1) ts) seg)) n) ∙ e) in
    (suc r.0, r.1, r.2, r.3)

-- and what it finds has a table of this segment
pub named_back : (f : PageForest) (first : ℕ) (ts : List (Option Table)) (seg : ℕ) (c : Cache) → cache_named (caches_shown f first ts) seg ≡ Some c
    → IsAt ts seg
named_back f first [] seg c e = absurd (cc e)
named_back f first (o ∷ ts) seg c e = back_by f first o ts seg c (is_named_by seg (option_map (cache_shown f first) o)) refl e (named_back f (first + 1) ts seg c)

-- In a manager

only_one : (a : Arena) → AreApart a → (k : ℕ) (t : Table) (s : SegId) → get_or a.caches k None ≡ Some t → t.segment ≡ Some s → (j : ℕ) (u : Table) → get_or a.caches j None ≡ Some u → u.segment ≡ Some s → j ≡ k
only_one a apart k t s e of j u there is =
    let q : suc j ≡ suc k = apart (suc j) (suc k) s (ap (option_map (λ (t : Table). t.segment)) there ∙ ap (λ (z : Option SegId). Some z) is) (ap (option_map (λ (t : Table). t.segment)) e ∙ ap (λ (z : Option SegId). Some z) of) in
    omega (arith, q)

module _ (p : Manager) (apart : AreApart p.caches) (f : PageForest) (cache : ℕ) (t : Table) (there : table_of p.caches cache ≡ Some t) (s : SegId) (of : t.segment ≡ Some s) where
  -- the machine's cache of a segment
  pub cache_of_segment : cache_named (machine_by p f).caches s.0 ≡ Some (cache_shown f cache t)
  cache_of_segment = at cache there
    where
      at : (n : ℕ) → table_at p.caches.caches n ≡ Some t → cache_named (caches_shown f 1 p.caches.caches) s.0 ≡ Some (cache_shown f n t)
      at zero e = absurd (cc e)
      at (suc k) e = named_found f 1 p.caches.caches k t s e of (only_one p.caches apart k t s e of) ∙ ap (λ (n : ℕ). Some (cache_shown f n t)) (let q : 1 + k ≡ suc k = omega arith in q)

  -- the page of it that is pushed
  pub page_of_segment : (page : ℕ) → page < length t.pages → page_named (machine_by p f) s.0 page ≡ Some (shown (value_of f (page_name (id_of cache) page)))
  page_of_segment page less =
      ap (option_and_then (λ (c : Cache). slice_get c.pages page)) cache_of_segment
      ∙ get-pages f cache 0 (length t.pages) page less ∙ ap (λ (k : ℕ). Some (shown (value_of f (page_name (id_of cache) k)))) (let z : 0 + page ≡ page = omega arith in z)

  -- the machine knows the segment
  pub machine_segment : model.segment_of (machine_by p f) cache ≡ Some s.0
  machine_segment = ap (option_and_then (λ (c : Cache). c.segment)) (numbered-caches f p.caches.caches cache ∙ ap (option_map (cache_shown f cache)) there) ∙ ap (option_map (λ (z : SegId). z.0)) of
