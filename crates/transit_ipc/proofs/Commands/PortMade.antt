-- A port is made: no cache is hidden by it.
use Rattle.std.proofs.Common.{◌≡◌, ◌≢◌, ◌⊎◌, inl, inr, ℕ, zero, suc, ◌+◌, ◌<◌, ◌≤◌, Bool, true, false, cond, List, [], ◌∷◌, ◌++◌, length, map, Option, Some, None, refl, sym, ap, subst, ◌∙◌, arith}
use Rattle.std.specs.VecDeque.{deque_capacity}
use Rattle.std.specs.Prelude.{◌||◌, ◌==◌, slice_get, nat_le, IsSome, Ok, Err}
use Rattle.std.specs.List.{list_any}
use Rattle.std.proofs.lemmas.Bool.{cases_eq}
use Rattle.std.proofs.lemmas.Bool.Decides.{nat_tests}
use Rattle.std.proofs.lemmas.List.{length-append, length-map, map-append}
use Rattle.std.proofs.lemmas.List.Folds.{list_any-append}
use Rattle.vm_ids.specs.declared.refusal.Refusal.TheVariants.{TooMany}
use Rattle.vm_ids.specs.declared.reply.Reply.TheVariants as replies
use Rattle.vm_ids.specs.declared.reply.Trouble.TheVariants as troubles
use Rattle.interface_callers.proofs.Words.{Cache, IsNotRefused, Machine, cache_of}
use Rattle.interface_callers.proofs.Lists.{get_last, or_false}
use Rattle.transit_ipc.specs.Answering.{Answered, empty_port, make_port_of, refuse, unless}
use Rattle.transit_ipc.specs.Calling.{IsMade}
use Rattle.transit_ipc.specs.PortMachine.{PortMachine}
use Rattle.transit_ipc.specs.Seen.{but_for, memory_seen, message_seen, port_seen, ports_seen}
use Rattle.transit_ipc.specs.Transit.{is_transit, waits_in}
use Rattle.transit_ipc.specs.Tying.{AreTied, Waits}
use Rattle.transit_ipc.specs.declared.limits.TheConstants.{MOST_PORTS}
use Rattle.transit_ipc.specs.declared.port.Message.{Message}
use Rattle.transit_ipc.specs.declared.port.Port.{Port}
use Rattle.transit_ipc.specs.declared.table.Ports.{Ports}

-- One more at the end of a list

push_other : {A : Type 0} (xs : List A) (x : A) (i : ℕ) → i ≢ length xs → slice_get (xs ++ x ∷ []) i ≡ slice_get xs i
push_other [] x zero apart = absurd (apart refl)
push_other [] x (suc i) apart = refl
push_other (y ∷ xs) x zero apart = refl
push_other (y ∷ xs) x (suc i) apart = push_other xs x i (λ e. apart (ap suc e))

-- where none is hidden, all is seen
pub all_seen : (k : ℕ) (xs : List (Option Cache)) → but_for (is_transit []) k xs ≡ xs
all_seen k [] = refl
all_seen k (x ∷ xs) = ap (λ (ys : List (Option Cache)). x ∷ ys) (all_seen (k + 1) xs)

-- The row

full_at : (m : PortMachine) (depth : ℕ) (full : Bool) → nat_le MOST_PORTS (length m.ports) ≡ full → full ≡ true → make_port_of m depth ≡ refuse m TooMany
unfolding make_port_of unless
full_at m depth full is e = ap (λ (b : Bool). cond b (refuse m TooMany) (record { answer = Ok (replies.Port (record { 0 = length m.ports + 1 })); next = record m { ports = m.ports ++ empty_port depth ∷ [] } })) (is ∙ e)

free_at : (m : PortMachine) (depth : ℕ) → nat_le MOST_PORTS (length m.ports) ≡ false
    → make_port_of m depth ≡ record { answer = Ok (replies.Port (record { 0 = length m.ports + 1 })); next = record m { ports = m.ports ++ empty_port depth ∷ [] } }
unfolding make_port_of unless
free_at m depth e = ap (λ (b : Bool). cond b (refuse m TooMany) (record { answer = Ok (replies.Port (record { 0 = length m.ports + 1 })); next = record m { ports = m.ports ++ empty_port depth ∷ [] } })) e

is_free : (m : Machine) (ports : List Port) → length ports < MOST_PORTS → nat_le MOST_PORTS (length (map (port_seen m) ports)) ≡ false
is_free m ports room = grind (arith, nat_tests, length-map ports (port_seen m))

-- No more of them

pub refused_port : {Manager : Type 0} (old : Ports Manager) (depth : ℕ) → MOST_PORTS ≤ length old.ports.items → IsMade old depth (Err (troubles.Refused TooMany)) old
refused_port old depth full = record {
  gmi = refl;
  tied = λ m tied. tied;
  outcome = λ m h. full_at (ports_seen m old.ports.items) depth _ refl (grind (arith, nat_tests, length-map old.ports.items (port_seen m)));
}

pub no_memory : {Manager : Type 0} (old new : Ports Manager) (depth : ℕ) → length old.ports.items < MOST_PORTS → new.gmi ≡ old.gmi → new.ports.items ≡ old.ports.items → IsMade old depth (Err troubles.Memory) new
no_memory old new depth room gmi same = record {
  gmi = gmi;
  tied = λ m tied. subst (AreTied m) (sym same) tied;
  outcome = λ m h. (ap (ports_seen m) same, tt, subst (λ (a : Answered). IsNotRefused a.answer) (sym (free_at (ports_seen m old.ports.items) depth (is_free m old.ports.items room))) tt);
}

-- One more

module _ (ports : List Port) (fresh : Port) (bare : fresh.messages.items ≡ []) where
  abbrev more : List Port
  more = ports ++ fresh ∷ []

  none_waits : (n : ℕ) → (waits_in n fresh || false) ≡ false
  none_waits n = ap (λ (xs : List Message). list_any (λ (x : Message). x.cache.0 == n) xs || false) bare

  pub transit_same : is_transit more ≡ is_transit ports
  transit_same = λ i n. (list_any-append (waits_in n) ports (fresh ∷ []) ∙ or_false (is_transit ports n) (waits_in n fresh || false) (none_waits n)) i

  memory_same : (m : Machine) → memory_seen m more ≡ memory_seen m ports
  memory_same m = ap (λ (hidden : ℕ → Bool). record m { caches = but_for hidden 1 m.caches }) transit_same

  seen : (m : Machine) → ports_seen m more ≡ record (ports_seen m ports) { ports = map (port_seen m) ports ++ empty_port fresh.depth ∷ [] }
  seen m = λ i. record { memory = memory_same m i; ports = (map-append (port_seen m) ports (fresh ∷ []) ∙ last) i }
    where
      last : map (port_seen m) ports ++ port_seen m fresh ∷ [] ≡ map (port_seen m) ports ++ empty_port fresh.depth ∷ []
      last = ap (λ (xs : List Message). map (port_seen m) ports ++ record { depth = fresh.depth; messages = map (message_seen m) xs } ∷ []) bare

  waits_at : (i j : ℕ) (x : Message) → Waits more i j x → (i ≡ length ports) ⊎ (i ≢ length ports) → Waits ports i j x
  waits_at i j x w (inl e) =
      let last : Some w.port ≡ Some fresh = sym w.there ∙ ap (slice_get more) e ∙ get_last ports fresh in
      let same : w.port ≡ fresh = cc last in
      absurd (let wrong : None ≡ Some x = ap (λ (xs : List Message). slice_get xs j) (sym (ap (λ (p : Port). p.messages.items) same ∙ bare)) ∙ w.has in cc wrong)
  waits_at i j x w (inr apart) = record { port = w.port; there = sym (push_other ports fresh i apart) ∙ w.there; has = w.has }

  before : (i j : ℕ) (x : Message) → Waits more i j x → Waits ports i j x
  before i j x w = waits_at i j x w (cases_eq i (length ports))

  module _ (roomy : fresh.depth ≤ deque_capacity fresh.messages) where
    deep_at : (m : Machine) → AreTied m ports → (i : ℕ) (p : Port) → slice_get more i ≡ Some p → (i ≡ length ports) ⊎ (i ≢ length ports) → length p.messages.items ≤ p.depth
    deep_at m tied i p e (inl last) =
        let both : Some p ≡ Some fresh = sym e ∙ ap (slice_get more) last ∙ get_last ports fresh in
        let same : p ≡ fresh = cc both in
        omega (arith, ap (λ (q : Port). length q.messages.items) same, ap (λ (xs : List Message). length xs) bare)
    deep_at m tied i p e (inr apart) = tied.deep i p (sym (push_other ports fresh i apart) ∙ e)

    roomy_at : (m : Machine) → AreTied m ports → (i : ℕ) (p : Port) → slice_get more i ≡ Some p → (i ≡ length ports) ⊎ (i ≢ length ports) → p.depth ≤ deque_capacity p.messages
    roomy_at m tied i p e (inl last) =
        let both : Some fresh ≡ Some p = sym (get_last ports fresh) ∙ ap (slice_get more) (sym last) ∙ e in
        let same : fresh ≡ p = cc both in
        subst (λ (q : Port). q.depth ≤ deque_capacity q.messages) same roomy
    roomy_at m tied i p e (inr apart) = tied.roomy i p (sym (push_other ports fresh i apart) ∙ e)

    tied_more : (m : Machine) → length ports < MOST_PORTS → AreTied m ports → AreTied m more
    tied_more m room tied = record {
      messages = λ i j x w. tied.messages i j x (before i j x w);
      apart = λ i j k l x y v w. tied.apart i j k l x y (before i j x v) (before k l y w);
      mapped = λ cache is. subst (λ (seen : Machine). IsSome (cache_of seen cache)) (sym (memory_same m)) (tied.mapped cache is);
      temporary = tied.temporary;
      deep = λ i p e. deep_at m tied i p e (cases_eq i (length ports));
      roomy = λ i p e. roomy_at m tied i p e (cases_eq i (length ports));
      few = omega (arith, room, length-append ports (fresh ∷ []));
    }

    pub made_port : {Manager : Type 0} (old new : Ports Manager) (n : ℕ) → n ≡ length ports → length ports < MOST_PORTS → old.ports.items ≡ ports → new.gmi ≡ old.gmi → new.ports.items ≡ more
        → IsMade old fresh.depth (Ok (replies.Port (record { 0 = n + 1 }))) new
    made_port old new n many room was gmi is = record {
      gmi = gmi;
      tied = λ m tied. subst (AreTied m) (sym is) (tied_more m room (subst (AreTied m) was tied));
      outcome = λ m h.
          ap (λ (ps : List Port). make_port_of (ports_seen m ps) fresh.depth) was
          ∙ free_at (ports_seen m ports) fresh.depth (is_free m ports room)
          ∙ (λ i. record { answer = Ok (replies.Port (record { 0 = (length-map ports (port_seen m) ∙ sym many) i + 1 })); next = (sym (seen m) ∙ ap (ports_seen m) (sym is)) i });
    }
