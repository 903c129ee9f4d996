-- Where messages wait, and what is seen of their caches.
use Rattle.std.proofs.Common.{◌≡◌, ◌≢◌, inl, inr, ◌==◌, ℕ, suc, ◌+◌, Bool, true, false, cond, List, [], ◌∷◌, length, map, Option, Some, None, refl, sym, ap, ◌∙◌}
use Rattle.std.specs.Prelude.{◌||◌, slice_get}
use Rattle.std.specs.List.{list_any}
use Rattle.std.specs.Option.{option_map_or}
use Rattle.vm_ids.proofs.Places.{same_number}
use Rattle.vm_model.proofs.Parts.ListParts.{numbered_past}
use Rattle.interface_callers.proofs.Words.{Cache, CacheId, Machine, cache_of}
use Rattle.interface_callers.proofs.Lists.{any_at, either, map_same}
use Rattle.std.proofs.lemmas.Bool.{eqb-true}
use Rattle.transit_ipc.specs.Inner.{shown}
use Rattle.transit_ipc.specs.PortMachine as model
use Rattle.transit_ipc.specs.Seen.{message_seen, port_seen}
use Rattle.transit_ipc.specs.Transit.{is_transit, waits_in}
use Rattle.transit_ipc.specs.Tying.{AreTied, IsMessage, Waits}
use Rattle.transit_ipc.specs.declared.port.Message.{Message}
use Rattle.transit_ipc.specs.declared.port.Port.{Port}

-- Some element passes a test

pub record IsFound {A : Type 0} (test : A → Bool) (xs : List A) : Type 0 where
  pub place : ℕ
  pub it : A
  pub there : slice_get xs place ≡ Some it
  pub passes : test it ≡ true

pub any_found : {A : Type 0} (test : A → Bool) (xs : List A) → list_any test xs ≡ true → IsFound test xs
any_found test [] e = absurd (cc e)
any_found {A} test (x ∷ xs) e = by (test x) refl e (any_found test xs)
  where
    by : (b : Bool) → test x ≡ b → (b || list_any test xs) ≡ true → (list_any test xs ≡ true → IsFound test xs) → IsFound test (x ∷ xs)
    by true is e rest = record { place = 0; it = x; there = refl; passes = is }
    by false is e rest = let r = rest e in record { place = suc r.place; it = r.it; there = r.there; passes = r.passes }

-- A cache is hidden exactly where a message waits in it

abbrev pub has_number : ℕ → Message → Bool
has_number n x = x.cache.0 == n

pub waiting_hides : (ports : List Port) (i j : ℕ) (x : Message) → Waits ports i j x → is_transit ports x.cache.0 ≡ true
waiting_hides ports i j x w = any_at (waits_in x.cache.0) ports i w.port w.there (any_at (has_number x.cache.0) w.port.messages.items j x w.has (same_number x.cache.0))

-- A message waits in the cache with this number.
pub record WaitsIn (ports : List Port) (n : ℕ) : Type 0 where
  pub place : ℕ
  pub turn : ℕ
  pub message : Message
  pub waits : Waits ports place turn message
  pub number : message.cache.0 ≡ n

pub hidden_waits : (ports : List Port) (n : ℕ) → is_transit ports n ≡ true → WaitsIn ports n
hidden_waits ports n e =
    let p = any_found (waits_in n) ports e in
    let x = any_found (has_number n) p.it.messages.items p.passes in
    record {
      place = p.place;
      turn = x.place;
      message = x.it;
      waits = record { port = p.it; there = p.there; has = x.there };
      number = eqb-true x.it.cache.0 n x.passes;
    }

-- no message waits in a cache that is seen
pub seen_apart : (ports : List Port) (i j k : ℕ) (x : Message) → Waits ports i j x → is_transit ports k ≡ false → x.cache.0 ≢ k
seen_apart ports i j k x w seen e = let wrong : true ≡ false = sym (waiting_hides ports i j x w) ∙ ap (is_transit ports) e ∙ seen in absurd (cc wrong)

-- where there is no cache, none is hidden
pub none_hidden : (m : Machine) (ports : List Port) → AreTied m ports → (n : ℕ) → cache_of m n ≡ None → is_transit ports n ≡ false
none_hidden m ports tied n none = elim (either (is_transit ports n)) [
  | inl e ↦ (let w = hidden_waits ports n e in
      let x : IsMessage m w.message = tied.messages w.place w.turn w.message w.waits in
      let wrong : Some x.cache ≡ None = sym x.there ∙ ap (cache_of m) w.number ∙ none in absurd (cc wrong))
  | inr e ↦ e
]

-- the next cache is seen
pub next_seen : (m : Machine) (ports : List Port) → AreTied m ports → is_transit ports (length m.caches + 1) ≡ false
next_seen m ports tied = none_hidden m ports tied (length m.caches + 1) (numbered_past m.caches (length m.caches + 1) refl)

-- no message waits in the next cache
pub waiting_past : (m : Machine) (ports : List Port) → AreTied m ports → (i j : ℕ) (x : Message) → Waits ports i j x → x.cache.0 ≢ length m.caches + 1
waiting_past m ports tied i j x w e =
    let is : IsMessage m x = tied.messages i j x w in
    let wrong : Some is.cache ≡ None = sym is.there ∙ numbered_past m.caches x.cache.0 e in
    absurd (cc wrong)

-- what a command finds isn't hidden
pub shown_visible : (m : Machine) (ports : List Port) → AreTied m ports → (cache : CacheId) → is_transit ports (shown ports cache).0 ≡ false
shown_visible m ports tied cache = by (is_transit ports cache.0) refl
  where
    by : (b : Bool) → is_transit ports cache.0 ≡ b → is_transit ports (let found : CacheId = cond b (record { 0 = 0 }) cache in found.0) ≡ false
    by true e = none_hidden m ports tied 0 refl
    by false e = e

-- What is seen of the ports

-- where the messages of the ports have the same pages, the same is seen of the ports
pub ports_same : (m n : Machine) (ports : List Port) → ((i j : ℕ) (x : Message) → Waits ports i j x → cache_of n x.cache.0 ≡ cache_of m x.cache.0) → map (port_seen n) ports ≡ map (port_seen m) ports
ports_same m n ports same = map_same (port_seen n) (port_seen m) ports (λ i p there.
    ap (λ (messages : List model.Message). let q : model.Port = record { depth = p.depth; messages = messages } in q)
    (map_same (message_seen n) (message_seen m) p.messages.items (λ j x has.
    ap (λ (o : Option Cache). option_map_or (λ (c : Cache). c.pages) o []) (same i j x (record { port = p; there = there; has = has })))))
