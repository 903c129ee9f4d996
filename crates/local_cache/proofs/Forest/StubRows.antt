-- Rows of stubs: what a walk gives, cutting a row in two, and rows in another arena.
use Rattle.std.proofs.Common.{◌≡◌, ◌⊎◌, true, List, [], ◌∷◌, ◌++◌, length, Option, Some, None, refl, sym, ap, ◌∙◌, subst, inl, inr}
use Rattle.vm_ids.specs.declared.numbers.NodeId.{NodeId}
use Rattle.local_cache.specs.Arena.{Arena, cell, HasNode}
use Rattle.local_cache.specs.Reading.{walk, stubs_of}
use Rattle.local_cache.specs.Threads.{head_or, last_or, IsStub, Row, IsThreaded}
use Rattle.local_cache.specs.Sound.{◌∈◌}
use Rattle.local_cache.proofs.Changes.SameNodes.{id_cases}

pub walk-row : (a : Arena) (x : NodeId) (b : Option NodeId) (ys : List NodeId) → Row a x b ys None → walk a (length ys) (head_or ys None) ≡ ys
walk-row a x b [] row = refl
walk-row a x b (y ∷ ys) row = ap (λ zs. y ∷ zs) (ap (walk a (length ys)) row.0.has_behind ∙ walk-row a x (Some y) ys row.1)

pub threaded_is : (a : Arena) (x : NodeId) (ys : List NodeId) → IsThreaded a x ys → stubs_of a x ≡ ys
unfolding stubs_of
threaded_is a x ys t = ap (λ k. walk a k (cell a x).links.first) t.count ∙ ap (walk a (length ys)) t.first ∙ walk-row a x None ys t.row

pub row-front : (a : Arena) (x : NodeId) (b : Option NodeId) (us vs : List NodeId) (c : Option NodeId) → Row a x b (us ++ vs) c → Row a x b us (head_or vs c)
row-front a x b [] vs c row = tt
row-front a x b (u ∷ []) vs c row = (row.0, tt)
row-front a x b (u ∷ w ∷ us) vs c row = (row.0, row-front a x (Some u) (w ∷ us) vs c row.1)

pub row-rear : (a : Arena) (x : NodeId) (b : Option NodeId) (us vs : List NodeId) (c : Option NodeId) → Row a x b (us ++ vs) c → Row a x (last_or us b) vs c
row-rear a x b [] vs c row = row
row-rear a x b (u ∷ us) vs c row = row-rear a x (Some u) us vs c row.1

pub row-join : (a : Arena) (x : NodeId) (b : Option NodeId) (us vs : List NodeId) (c : Option NodeId) → Row a x b us (head_or vs c) → Row a x (last_or us b) vs c → Row a x b (us ++ vs) c
row-join a x b [] vs c front rear = rear
row-join a x b (u ∷ []) vs c front rear = (front.0, rear)
row-join a x b (u ∷ w ∷ us) vs c front rear = (front.0, row-join a x (Some u) (w ∷ us) vs c front.1 rear)

-- what holds of each node of a row
pub row-each : (a : Arena) (x : NodeId) (b : Option NodeId) (ys : List NodeId) (c : Option NodeId) → Row a x b ys c → (y : NodeId) → y ∈ ys → HasNode a y × ((cell a y).links.parent ≡ Some x) × ((cell a y).links.by_stub ≡ true)
row-each a x b [] c row y h = absurd h
row-each a x b (z ∷ ys) c row y (inl e) = subst (λ z. HasNode a z × ((cell a z).links.parent ≡ Some x) × ((cell a z).links.by_stub ≡ true)) (sym e) (row.0.held, row.0.parent, row.0.by_stub)
row-each a x b (z ∷ ys) c row y (inr h) = row-each a x (Some z) ys c row.1 y h

-- y keeps its place among its parent's stubs
pub record Keeps (a b : Arena) (y : NodeId) : Type 0 where
  pub held : HasNode a y → HasNode b y
  pub parent : (cell b y).links.parent ≡ (cell a y).links.parent
  pub by_stub : (cell b y).links.by_stub ≡ (cell a y).links.by_stub
  pub before : (cell b y).links.before ≡ (cell a y).links.before
  pub behind : (cell b y).links.behind ≡ (cell a y).links.behind

pub keeps_links : (a b : Arena) (y : NodeId) → (HasNode a y → HasNode b y) → (cell b y).links ≡ (cell a y).links → Keeps a b y
keeps_links a b y h e = record { held = h; parent = ap (λ l. l.parent) e; by_stub = ap (λ l. l.by_stub) e; before = ap (λ l. l.before) e; behind = ap (λ l. l.behind) e }

pub stub-kept : (a b : Arena) (x y : NodeId) (before behind : Option NodeId) → Keeps a b y → IsStub a x before y behind → IsStub b x before y behind
stub-kept a b x y before behind k s = record {
  held = k.held s.held;
  parent = k.parent ∙ s.parent;
  by_stub = k.by_stub ∙ s.by_stub;
  has_before = k.before ∙ s.has_before;
  has_behind = k.behind ∙ s.has_behind;
}

pub row-kept : (a b : Arena) (x : NodeId) (before : Option NodeId) (ys : List NodeId) (behind : Option NodeId) → ((y : NodeId) → y ∈ ys → Keeps a b y) → Row a x before ys behind → Row b x before ys behind
row-kept a b x before [] behind k row = tt
row-kept a b x before (y ∷ ys) behind k row = (stub-kept a b x y before (head_or ys behind) (k y (inl refl)) row.0, row-kept a b x (Some y) ys behind (λ z h. k z (inr h)) row.1)

pub data Ends (ys : List NodeId) : Type 0 where
  IsNone : ys ≡ [] → Ends ys
  EndsBy : (us : List NodeId) (l : NodeId) → ys ≡ us ++ l ∷ [] → Ends ys

pub ends : (ys : List NodeId) → Ends ys
ends [] = IsNone refl
ends (y ∷ ys) = elim (ends ys) [ IsNone e ↦ EndsBy [] y (ap (λ zs. y ∷ zs) e) | EndsBy us l e ↦ EndsBy (y ∷ us) l (ap (λ zs. y ∷ zs) e) ]

pub last_or-end : (us : List NodeId) (l : NodeId) (o : Option NodeId) → last_or (us ++ l ∷ []) o ≡ Some l
last_or-end [] l o = refl
last_or-end (u ∷ us) l o = last_or-end us l (Some u)

pub last_or-append : (us vs : List NodeId) (o : Option NodeId) → last_or (us ++ vs) o ≡ last_or vs (last_or us o)
last_or-append [] vs o = refl
last_or-append (u ∷ us) vs o = last_or-append us vs (Some u)

-- in a row with a node behind it, each node has a node behind it
pub row-behind : (a : Arena) (x : NodeId) (b : Option NodeId) (ys : List NodeId) (l : NodeId) → Row a x b ys (Some l) → (y : NodeId) → y ∈ ys → (z : NodeId) × ((cell a y).links.behind ≡ Some z)
row-behind a x b [] l row y h = absurd h
row-behind a x b (w ∷ []) l row y (inl e) = (l, ap (λ n. (cell a n).links.behind) e ∙ row.0.has_behind)
row-behind a x b (w ∷ []) l row y (inr h) = absurd h
row-behind a x b (w ∷ v ∷ ys) l row y (inl e) = (v, ap (λ n. (cell a n).links.behind) e ∙ row.0.has_behind)
row-behind a x b (w ∷ v ∷ ys) l row y (inr h) = row-behind a x (Some w) (v ∷ ys) l row.1 y h

-- the list of x stays, where its ends and the places of its stubs stay
pub threaded-kept : (a b : Arena) (x : NodeId) (ys : List NodeId) → ((y : NodeId) → y ∈ ys → Keeps a b y) → (cell b x).links.first ≡ (cell a x).links.first → (cell b x).links.last ≡ (cell a x).links.last → (cell b x).links.stubs ≡ (cell a x).links.stubs → IsThreaded a x ys → IsThreaded b x ys
threaded-kept a b x ys k first last stubs t = record { row = row-kept a b x None ys None k t.row; first = first ∙ t.first; last = last ∙ t.last; count = stubs ∙ t.count }

pub end_in : (us : List NodeId) (l : NodeId) → l ∈ (us ++ l ∷ [])
end_in [] l = inl refl
end_in (u ∷ us) l = inr (end_in us l)

pub last_in : (ys : List NodeId) (l : NodeId) → last_or ys None ≡ Some l → l ∈ ys
last_in ys l e = elim (ends ys) [
  | IsNone is ↦ absurd (let clash : Some l ≡ None = sym e ∙ ap (λ zs. last_or zs None) is in cc clash)
  | EndsBy us m is ↦
      let two : Some m ≡ Some l = sym (last_or-end us m None) ∙ ap (λ zs. last_or zs None) (sym is) ∙ e in
      let same : m ≡ l = cc two in
      subst (λ zs. l ∈ zs) (sym is) (subst (λ k. k ∈ (us ++ m ∷ [])) same (end_in us m))
]

pub option_cases : (o : Option NodeId) (n : NodeId) → (o ≡ Some n) ⊎ (o ≡ Some n → ⊥)
option_cases None n = inr (λ e. cc e)
option_cases (Some m) n = elim (id_cases m n) [ inl e ↦ inl (ap Some e) | inr ne ↦ inr (λ e. let same : m ≡ n = cc e in ne same) ]
