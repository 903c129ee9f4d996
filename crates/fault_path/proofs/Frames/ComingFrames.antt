-- Which nodes come to frames while pages are brought in and frames are filled and settled.
use Rattle.std.proofs.Common.{◌≡◌, ◌≢◌, ◌⊎◌, ℕ, ◌<◌, Bool, true, false, List, [], length, set, Option, Some, None, is_some, refl, sym, ap, subst, ◌∙◌, inl, inr}
use Rattle.std.proofs.lemmas.List.{get_or-set_other}
use Rattle.vm_ids.specs.declared.numbers.NodeId.{NodeId}
use Rattle.frame_pool.specs.Pool.{bytes_of, with_bytes}
use Rattle.global_map.specs.Pairs.{node_of}
use Rattle.local_cache.specs.declared.home.Home.{Home}
use Rattle.local_cache.specs.declared.own_state.OwnState.{OwnState}
use Rattle.local_cache.specs.declared.own_state.OwnState.TheVariants.{Absent, Zero, Resident, Slot, OnSegment}
use Rattle.local_cache.specs.Arena.{Arena}
use Rattle.local_cache.specs.Changes.{Like}
use Rattle.local_cache.specs.Home.{home_of}
use Rattle.local_cache.specs.Own.{is_resident, own_of}
use Rattle.local_cache.proofs.Names.Homes.{home-like}
use Rattle.local_cache.proofs.Nodes.OwnStates.{id_cases}
use Rattle.residency.specs.World.{OthersStay, OthersStayBut, StaysOrLeaves, World, is_out}
use Rattle.fault_path.specs.Coming.{IsBroughtIn, OnlyCome}
use Rattle.fault_path.specs.Faults.{is_at_hand, is_zero}
use Rattle.fault_path.specs.Translating.{Nobody}
use Rattle.fault_path.proofs.Translations.Given.{settled_comes}

-- an own state stays or its page leaves, first and then
leaves_then : (home home' : Option Home) (x y z : OwnState) → home' ≡ home → StaysOrLeaves home x y → StaysOrLeaves home' y z → StaysOrLeaves home x z
leaves_then home home' x y z same p q = record {
  away = λ gone. (let first : y ≡ x = p.away gone in q.away (ap is_resident first ∙ gone) ∙ first);
  here = λ out. (let second : z ≡ y = q.here (ap (λ (o : Option Home). is_out o z) same ∙ out) in second ∙ p.here (ap (is_out home) (sym second) ∙ out));
}

-- the own state of a node stays or its page leaves, or it is one of these
abbrev States : (NodeId → Type 0) → Arena → Arena → Type 0
States may a b = (m : NodeId) → StaysOrLeaves (home_of a m) (own_of a m) (own_of b m) ⊎ may m

-- another own state is that of a node that may come
states_but : (may : NodeId → Type 0) (a b c : Arena) (n : NodeId) → may n → ((m : NodeId) → m ≢ n → own_of c m ≡ own_of b m) → States may a b → States may a c
states_but may a b c n comes others states m = elim (id_cases m n) [
  | inl e ↦ inr (subst may (sym e) comes)
  | inr d ↦ elim (states m) [
    | inr k ↦ inr k
    | inl stays ↦ inl (subst (StaysOrLeaves (home_of a m) (own_of a m)) (sym (others m d)) stays)
  ]
]

-- pages leave their frames alone
pub none_come : (old new : World) → OthersStay old new → OnlyCome Nobody old new
none_come old new others = record { frames = λ f n at. inl (others.frames f (ap is_some at)); states = λ m. inl (others.states m) }

-- or one node may come
pub one_comes : (n : NodeId) (old new : World) → OthersStayBut n old new → OnlyCome (λ m. m ≡ n) old new
one_comes n old new others = record {
  frames = λ f m at. elim (id_cases m n) [
    | inl e ↦ inr e
    | inr d ↦ inl (others.frames f (ap is_some at) (λ e. d (let same : Some m ≡ Some n = sym at ∙ e in cc same)))
  ];
  states = λ m. elim (id_cases m n) [
    | inl e ↦ inr e
    | inr d ↦ inl (others.states m (λ e. d (λ i. record { 0 = e i })))
  ];
}

-- nothing happened
pub same_come : (may : NodeId → Type 0) (w : World) → OnlyCome may w w
same_come may w = record { frames = λ f n at. inl (record { bytes = refl; node = refl }); states = λ m. inl (record { away = λ _. refl; here = λ _. refl }) }

-- more nodes may come
pub more_come : (may may' : NodeId → Type 0) (old new : World) → ((n : NodeId) → may n → may' n) → OnlyCome may old new → OnlyCome may' old new
more_come may may' old new more come = record {
  frames = λ f n at. elim (come.frames f n at) [ inl stays ↦ inl stays | inr m ↦ inr (more n m) ];
  states = λ m. elim (come.states m) [ inl stays ↦ inl stays | inr k ↦ inr (more m k) ];
}

-- first and then
pub come_then : (may : NodeId → Type 0) (a b c : World) → Like a.caches b.caches → OnlyCome may a b → OnlyCome may b c → OnlyCome may a c
come_then may a b c like first then = record {
  frames = λ f n at. elim (then.frames f n at) [
    | inr m ↦ inr m
    | inl later ↦ elim (first.frames f n (sym later.node ∙ at)) [
      | inr m ↦ inr m
      | inl early ↦ inl (record { bytes = later.bytes ∙ early.bytes; node = later.node ∙ early.node })
    ]
  ];
  states = λ m. elim (then.states m) [
    | inr k ↦ inr k
    | inl later ↦ elim (first.states m) [
      | inr k ↦ inr k
      | inl early ↦ inl (leaves_then (home_of a.caches m) (home_of b.caches m) (own_of a.caches m) (own_of b.caches m) (own_of c.caches m) (home-like a.caches b.caches like m) early later)
    ]
  ];
}

-- worlds with these maps and bytes, and with the same caches
pub come_by : (may : NodeId → Type 0) (a b c d : World) → c.map ≡ a.map → c.frames.bytes ≡ a.frames.bytes → c.caches ≡ a.caches → d.map ≡ b.map → d.frames.bytes ≡ b.frames.bytes → d.caches ≡ b.caches → OnlyCome may a b → OnlyCome may c d
come_by may a b c d map bytes caches map' bytes' caches' come = record {
  frames = λ f n at. elim (come.frames f n (ap (node_at f) (sym map') ∙ at)) [
    | inr m ↦ inr m
    | inl stays ↦ inl (record { bytes = ap (bytes_at f) bytes' ∙ stays.bytes ∙ ap (bytes_at f) (sym bytes); node = ap (node_at f) map' ∙ stays.node ∙ ap (node_at f) (sym map) })
  ];
  states = subst (States may c.caches) (sym caches') (subst (λ (x : Arena). States may x b.caches) (sym caches) come.states);
}
  where
    node_at : ℕ → List (Option NodeId) → Option NodeId
    node_at f m = node_of m f

    bytes_at : ℕ → List (List ℕ) → List ℕ
    bytes_at f bs = bytes_of (record a.frames { bytes = bs }) f

-- a frame without a node is filled
pub come_filled : (may : NodeId → Type 0) (old w : World) (f : ℕ) (bytes : List ℕ) → node_of w.map f ≡ None → OnlyCome may old w → OnlyCome may old (record w { frames = with_bytes w.frames f bytes })
come_filled may old w f bytes free come = record {
  frames = λ g n at. elim (come.frames g n at) [
    | inr m ↦ inr m
    | inl stays ↦ inl (record { bytes = get_or-set_other w.frames.bytes f g bytes [] (λ e. absurd (let no : Some n ≡ None = sym at ∙ ap (node_of w.map) e ∙ free in cc no)) ∙ stays.bytes; node = stays.node })
  ];
  states = come.states;
}

-- a node that may come is settled in a frame
pub come_settled : (may : NodeId → Type 0) (old w v : World) (f : ℕ) (n : NodeId) → f < length w.map → may n → v.map ≡ set w.map f (Some n) → v.frames.bytes ≡ w.frames.bytes → ((m : NodeId) → m ≢ n → own_of v.caches m ≡ own_of w.caches m) → OnlyCome may old w → OnlyCome may old v
come_settled may old w v f n within comes map bytes others come = record {
  frames = λ g m at. elim (settled_comes w.map f n within g m (ap (λ (l : List (Option NodeId)). node_of l g) (sym map) ∙ at)) [
    | inr e ↦ inr (subst may (sym e) comes)
    | inl there ↦ elim (come.frames g m there) [
      | inr k ↦ inr k
      | inl stays ↦ inl (record { bytes = ap (λ (bs : List (List ℕ)). bytes_of (record w.frames { bytes = bs }) g) bytes ∙ stays.bytes; node = at ∙ sym there ∙ stays.node })
    ]
  ];
  states = states_but may old.caches w.caches v.caches n comes others come.states;
}

-- a node that may come has another own state
pub come_owned : (may : NodeId → Type 0) (old w : World) (b : Arena) (n : NodeId) → may n → ((m : NodeId) → m ≢ n → own_of b m ≡ own_of w.caches m) → OnlyCome may old w → OnlyCome may old (record w { caches = b })
come_owned may old w b n comes others come = record {
  frames = λ f m at. elim (come.frames f m at) [
    | inr k ↦ inr k
    | inl stays ↦ inl (record { bytes = stays.bytes; node = stays.node })
  ];
  states = states_but may old.caches w.caches b n comes others come.states;
}

not_at_hand : (x : OwnState) → is_resident x ≡ false → is_zero x ≡ false → is_at_hand x ≡ false
not_at_hand Absent r z = refl
not_at_hand Zero r z = absurd (cc z)
not_at_hand (Resident d) r z = absurd (cc r)
not_at_hand (Slot s) r z = refl
not_at_hand OnSegment r z = refl

-- a page is brought in, where it isn't in a frame
pub brought_comes : (n : NodeId) (old new : World) → is_zero (own_of old.caches n) ≡ false → OthersStayBut n old new → (is_resident (own_of old.caches n) ≡ true → (new.map ≡ old.map) × (new.frames.bytes ≡ old.frames.bytes) × (new.caches ≡ old.caches))
    → OnlyCome (IsBroughtIn old.caches n) old new
brought_comes n old new zero others idle = go (is_resident (own_of old.caches n)) refl
  where
    go : (b : Bool) → is_resident (own_of old.caches n) ≡ b → OnlyCome (IsBroughtIn old.caches n) old new
    go true e =
        let same = idle e in
        come_by (IsBroughtIn old.caches n) old old old new refl refl refl same.0 same.1 same.2 (same_come (IsBroughtIn old.caches n) old)
    go false e = more_come (λ m. m ≡ n) (IsBroughtIn old.caches n) old new (λ m is. (is, not_at_hand (own_of old.caches n) e zero)) (one_comes n old new others)
