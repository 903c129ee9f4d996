-- What stays from one moment to a later one stays over both, and where nothing happens.
use Rattle.std.proofs.Common.{◌≡◌, ℕ, refl, sym, ap, ◌∙◌, subst, is_some}
use Rattle.vm_ids.specs.declared.numbers.NodeId.{NodeId}
use Rattle.std.specs.Prelude.{Option}
use Rattle.local_cache.specs.declared.home.Home.{Home}
use Rattle.local_cache.specs.declared.own_state.OwnState.{OwnState}
use Rattle.local_cache.specs.Home.{home_of}
use Rattle.local_cache.specs.Own.{is_resident, own_of}
use Rattle.residency.specs.World.{World, IsStoreRight, OthersStay, OthersStayBut, PagesStay, SameNodes, StaysOrLeaves, Still, is_out}
use Rattle.residency.proofs.Worlds.Nodes.{same, same_home, same_then}

pub still : (w : World) → IsStoreRight w → Still w w
still w right = record {
  stays = record { right = right; pages = λ n. refl; caches = same w.caches; page_bytes = refl; frames = refl; page = refl; slots = refl };
  pinned = λ f p. record { pinned = p; bytes = refl; node = refl };
}

pub stays_then : (a b c : World) → PagesStay a b → PagesStay b c → PagesStay a c
stays_then a b c p q = record {
  right = q.right;
  pages = λ n. q.pages n ∙ p.pages n;
  caches = same_then a.caches b.caches c.caches p.caches q.caches;
  page_bytes = q.page_bytes ∙ p.page_bytes;
  frames = q.frames ∙ p.frames;
  page = q.page ∙ p.page;
  slots = q.slots ∙ p.slots;
}

pub still_then : (a b c : World) → Still a b → Still b c → Still a c
still_then a b c p q = record {
  stays = stays_then a b c p.stays q.stays;
  pinned = λ f h. let i = p.pinned f h in let j = q.pinned f i.pinned in record { pinned = j.pinned; bytes = j.bytes ∙ i.bytes; node = j.node ∙ i.node };
}

leaves_then : (home : Option Home) (x y z : OwnState) → StaysOrLeaves home x y → StaysOrLeaves home y z → StaysOrLeaves home x z
leaves_then home x y z p q = record {
  away = λ gone. let first : y ≡ x = p.away gone in q.away (ap is_resident first ∙ gone) ∙ first;
  here = λ out. let second : z ≡ y = q.here out in second ∙ p.here (ap (is_out home) (sym second) ∙ out);
}

-- homes go with the nodes
leaves_later : (a b c : World) → SameNodes a.caches b.caches → (m : NodeId) → StaysOrLeaves (home_of a.caches m) (own_of a.caches m) (own_of b.caches m)
    → StaysOrLeaves (home_of b.caches m) (own_of b.caches m) (own_of c.caches m) → StaysOrLeaves (home_of a.caches m) (own_of a.caches m) (own_of c.caches m)
leaves_later a b c same m p q =
    leaves_then (home_of a.caches m) (own_of a.caches m) (own_of b.caches m) (own_of c.caches m) p
    (subst (λ (o : Option Home). StaysOrLeaves o (own_of b.caches m) (own_of c.caches m)) (same_home a.caches b.caches same m) q)

pub others_same : (w : World) → OthersStay w w
others_same w = record { frames = λ f _. record { bytes = refl; node = refl }; states = λ m. record { away = λ _. refl; here = λ _. refl } }

pub others_then : (a b c : World) → SameNodes a.caches b.caches → OthersStay a b → OthersStay b c → OthersStay a c
others_then a b c same p q = record {
  frames = λ f bound. (
      let second = q.frames f bound in
      let first = p.frames f (ap is_some (sym second.node) ∙ bound) in
      record { bytes = second.bytes ∙ first.bytes; node = second.node ∙ first.node });
  states = λ m. leaves_later a b c same m (p.states m) (q.states m);
}

pub others_then_but : (n : NodeId) (a b c : World) → SameNodes a.caches b.caches → OthersStay a b → OthersStayBut n b c → OthersStayBut n a c
others_then_but n a b c same p q = record {
  frames = λ f bound other. (
      let second = q.frames f bound other in
      let first = p.frames f (ap is_some (sym second.node) ∙ bound) in
      record { bytes = second.bytes ∙ first.bytes; node = second.node ∙ first.node });
  states = λ m d. leaves_later a b c same m (p.states m) (q.states m d);
}

pub others_but : (n : NodeId) (a b : World) → OthersStay a b → OthersStayBut n a b
others_but n a b h = record { frames = λ f bound _. h.frames f bound; states = λ m _. h.states m }

-- a store with as many marks
pub still_marks : (w v : World) (k : ℕ) → k ≡ w.marks → Still (record w { marks = k }) v → Still w v
still_marks w v k e h = subst (λ (k : ℕ). Still (record w { marks = k }) v) e h

pub others_marks : (w v : World) (k : ℕ) → OthersStay (record w { marks = k }) v → OthersStay w v
others_marks w v k h = record { frames = λ f bound. let it = h.frames f bound in record { bytes = it.bytes; node = it.node }; states = h.states }
