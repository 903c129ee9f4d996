-- The caches are the same but for own states.
use Rattle.std.proofs.Common.{◌≡◌, Option, Some, None, IsSome, is_some, option_map, unwrap_or, refl, sym, ap, ◌∙◌, inl, inr}
use Rattle.std.specs.Prelude.{List, false, option_and_then, slice_get}
use Rattle.std.proofs.lemmas.Bool.{false≢true}
use Rattle.vm_ids.specs.declared.node_name.NodeName.{NodeName}
use Rattle.vm_ids.specs.declared.node_name.NodeName.TheVariants.{Live, Working}
use Rattle.vm_ids.specs.declared.numbers.NodeId.{NodeId}
use Rattle.local_cache.specs.declared.own_state.OwnState.{OwnState}
use Rattle.local_cache.specs.Arena as arena
use Rattle.local_cache.specs.Arena.{Arena, Cell, HasNode, Table, blank, cell, find, table_at, with_own}
use Rattle.local_cache.specs.Changes.{Like}
use Rattle.local_cache.specs.Home.{home_of}
use Rattle.local_cache.specs.Reading.{name_of}
use Rattle.local_cache.proofs.Names.Homes.{home-like}
use Rattle.local_cache.proofs.Nodes.Cells.{find-put, find-put_other}
use Rattle.local_cache.proofs.Nodes.OwnStates.{id_cases}
use Rattle.residency.specs.World.{SameNodes, is_name_granted, without_own}

whole : (o : Option Cell) → IsSome o → Some (without_own (unwrap_or o blank)) ≡ option_map without_own o
whole None h = absurd (false≢true h)
whole (Some c) h = refl

bare : (a : Arena) (n : NodeId) → HasNode a n → Some (without_own (cell a n)) ≡ option_map without_own (find a n)
unfolding cell
bare a n held = whole (find a n) held

rest_same : (a : Arena) (n : NodeId) (c : Cell) → record (arena.put a n c) { cells = a.cells } ≡ a
unfolding arena.put
rest_same a n c = refl

pub with_own_same : (a : Arena) (n : NodeId) (s : OwnState) → HasNode a n → SameNodes a (with_own a n s)
with_own_same a n s held = record {
  nodes = λ m. elim (id_cases m n) [
    | inl e ↦ ap (λ (k : NodeId). option_map without_own (find (with_own a n s) k)) e ∙ ap (option_map without_own) (find-put a n (record (cell a n) { own = s })) ∙ bare a n held ∙ ap (λ (k : NodeId). option_map without_own (find a k)) (sym e)
    | inr d ↦ ap (option_map without_own) (find-put_other a n m (record (cell a n) { own = s }) d)
  ];
  rest = rest_same a n (record (cell a n) { own = s });
}

pub same : (a : Arena) → SameNodes a a
same a = record { nodes = λ n. refl; rest = refl }

pub same_then : (a b c : Arena) → SameNodes a b → SameNodes b c → SameNodes a c
same_then a b c p q = record {
  nodes = λ n. q.nodes n ∙ p.nodes n;
  rest = ap (λ (b : Arena). record b { cells = a.cells }) q.rest ∙ p.rest;
}

module _ (a b : Arena) (same : SameNodes a b) where
  -- what is read of a node, but for its own state
  pub read_same : {X : Type 0} (read : Cell → X) → ((c : Cell) → read (without_own c) ≡ read c) → (n : NodeId) → read (cell b n) ≡ read (cell a n)
  unfolding cell
  read_same {X} read whole n = sym (out (find b n)) ∙ ap (λ o. read (unwrap_or o blank)) (same.nodes n) ∙ out (find a n)
    where
      out : (o : Option Cell) → read (unwrap_or (option_map without_own o) blank) ≡ read (unwrap_or o blank)
      out None = refl
      out (Some c) = whole c

  there : (o : Option Cell) → is_some (option_map without_own o) ≡ is_some o
  there None = refl
  there (Some c) = refl

  pub still_like : Like a b
  still_like = record {
    held = λ n. sym (there (find b n)) ∙ ap is_some (same.nodes n) ∙ there (find a n);
    name = λ n. read_same (λ c. c.name) (λ c. refl) n;
    caches = ap (λ k. k.caches) same.rest;
  }

-- grants are those of the names
granted_in : (a b : Arena) → b.caches ≡ a.caches → (x : NodeName) → is_name_granted b x ≡ is_name_granted a x
granted_in a b caches (Live cache page) = ap (λ (ts : List (Option Table)). unwrap_or (option_and_then (λ (t : Table). slice_get t.grants page.0) (table_at ts cache.0)) false) caches
granted_in a b caches (Working number) = refl

pub granted_like : (a b : Arena) → Like a b → (n : NodeId) → is_name_granted b (name_of b n) ≡ is_name_granted a (name_of a n)
granted_like a b like n = ap (is_name_granted b) (like.name n) ∙ granted_in a b like.caches (name_of a n)

pub same_home : (a b : Arena) → SameNodes a b → (n : NodeId) → home_of b n ≡ home_of a n
same_home a b same = home-like a b (still_like a b same)

-- another own state leaves them
pub own_granted : (a : Arena) (n : NodeId) (s : OwnState) → HasNode a n → (m : NodeId) → is_name_granted (with_own a n s) (name_of (with_own a n s) m) ≡ is_name_granted a (name_of a m)
own_granted a n s held = granted_like a (with_own a n s) (still_like a (with_own a n s) (with_own_same a n s held))
