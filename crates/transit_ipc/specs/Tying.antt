-- How the ports are tied to the machine that their manager stands for.
use Rattle.std.specs.Prelude.{◌≡◌, ◌≤◌, ℕ, false, List, [], length, Option, Some, None, slice_get, IfNone, IsSome}
use Rattle.std.specs.Bool.{IsTrue}
use Rattle.std.specs.VecDeque.{deque_capacity}
use Rattle.vm_ids.specs.Held.{Held}
use Rattle.vm_model.specs.Answering.{is_mapped}
use Rattle.vm_model.specs.Machine.{Cache, Machine, cache_of, live_pages}
use Rattle.vm_model.specs.Outcome.{blank}
use Rattle.vm_model.specs.declared.limits.TheConstants.{LIVE_PAGES}
use Rattle.gmi_calls.specs.Calling.{Fits}
use Rattle.gmi_calls.specs.declared.gmi.Gmi.{Ghosts as GhostsOfGmi}
use Rattle.transit_ipc.specs.Seen.{memory_seen}
use Rattle.transit_ipc.specs.declared.limits.TheConstants.{MOST_PORTS}
use Rattle.transit_ipc.specs.declared.port.Message.{Message}
use Rattle.transit_ipc.specs.declared.port.Port.{Port}
use Rattle.transit_ipc.specs.declared.table.Ports.{Ports}

-- This message waits here: at this place of the port at that place.
pub record Waits (ports : List Port) (i j : ℕ) (message : Message) : Type 0 where
  pub port : Port
  pub there : slice_get ports i ≡ Some port
  pub has : slice_get port.messages.items j ≡ Some message

-- The cache of a message has just its pages.
pub record IsMessage (m : Machine) (message : Message) : Type 0 where
  pub cache : Cache
  pub there : cache_of m message.cache.0 ≡ Some cache
  pub some : 1 ≤ message.pages
  pub many : length cache.pages ≡ message.pages

-- no two messages wait in one cache
abbrev pub AreApart : List Port → Type 0
AreApart ports =
    (i j k l : ℕ) (x y : Message) → Waits ports i j x → Waits ports k l y
    → x.cache.0 ≡ y.cache.0 → (i ≡ k) × (j ≡ l)

-- Each message that waits has a cache for itself. What regions map are other caches; no segment
-- names a cache, and each port has room for as many messages as may wait, and no more of them.
pub record AreTied (m : Machine) (ports : List Port) : Type 0 where
  pub messages : (i j : ℕ) (x : Message) → Waits ports i j x → IsMessage m x
  pub apart : AreApart ports
  pub mapped : (cache : ℕ) → IsTrue (is_mapped m cache)
      → IsSome (cache_of (memory_seen m ports) cache)
  pub temporary : (cache : ℕ) (c : Cache) → cache_of m cache ≡ Some c → c.segment ≡ None
  pub deep : (i : ℕ) (p : Port) → slice_get ports i ≡ Some p → length p.messages.items ≤ p.depth
  pub roomy : (i : ℕ) (p : Port) → slice_get ports i ≡ Some p → p.depth ≤ deque_capacity p.messages
  pub few : length ports ≤ MOST_PORTS

-- where nothing is told, the machine has no bytes
abbrev pub IsUntoldBlank : Option Held → Machine → Type 0
IsUntoldBlank told m = IfNone told (m ≡ blank m)

-- What it takes to call the manager, given what the mapper holds and how many bytes its pages have,
-- where that is told; and the ports that are tied to it. `G` is the ghost members of the manager.
pub record AreAble {Manager Mapper Chooser : Type 0} (G : GhostsOfGmi Manager Mapper Chooser)
    (gmi : Manager) (told : Option Held) (page_bytes : Option ℕ) (ports : List Port)
    : Type 0 where
  pub valid : G.valid gmi told
  pub unlimited : G.room gmi ≡ None
  pub fits : Fits page_bytes (G.machine gmi told)
  pub live : live_pages (G.machine gmi told) ≤ LIVE_PAGES
  pub tied : AreTied (G.machine gmi told) ports
  pub blank : IsUntoldBlank told (G.machine gmi told)

-- what it takes to call the ports
abbrev pub CanCall : {Manager Mapper Chooser : Type 0} → GhostsOfGmi Manager Mapper Chooser
    → Ports Manager → Option Held → Option ℕ → Type 0
CanCall G ports told page_bytes = AreAble G ports.gmi told page_bytes ports.ports.items

-- A manager without caches whose room isn't limited: no region maps one.
pub record IsBare {Manager Mapper Chooser : Type 0} (G : GhostsOfGmi Manager Mapper Chooser)
    (gmi : Manager) (told : Option Held) (page_bytes : Option ℕ) : Type 0 where
  pub valid : G.valid gmi told
  pub unlimited : G.room gmi ≡ None
  pub fits : Fits page_bytes (G.machine gmi told)
  pub caches : (G.machine gmi told).caches ≡ []
  pub unmapped : (cache : ℕ) → is_mapped (G.machine gmi told) cache ≡ false
