-- A receive is answered: refused at once, or by what its calls of the manager came to.
use Rattle.std.proofs.Common.{◌≡◌, ◌⊎◌, ℕ, suc, ◌^◌, ◌<◌, ◌≤◌, false, List, [], length, drop, set, Option, Some, refl, sym, ap, subst, ◌∙◌, arith}
use Rattle.std.specs.Prelude.{Ok, Err, Result, slice_get}
use Rattle.std.specs.List.{list_any}
use Rattle.std.specs.VecDeque.{deque_capacity}
use Rattle.vm_ids.specs.declared.command.Command.TheVariants as vm_commands
use Rattle.vm_ids.specs.declared.command.PortCommand.{PortCommand}
use Rattle.vm_ids.specs.declared.command.PortCommand.TheVariants as commands
use Rattle.vm_ids.specs.declared.refusal.Refusal.TheVariants as refusals
use Rattle.vm_ids.specs.declared.reply.Reply.TheVariants as replies
use Rattle.vm_ids.specs.declared.reply.Trouble.TheVariants as troubles
use Rattle.interface_callers.proofs.Words.{Actor, Answer, CacheId, Fits, GhostsOfGmi, GhostsOfMapper, Machine, MapperCall, PageNo, PortId, Refusal, Trouble, done_by, is_mapped, maps_in, meanings_of, put_cache, segments_of}
use Rattle.interface_callers.proofs.Alike.{shape_cache, still_temporary}
use Rattle.interface_callers.proofs.Blanks.{without}
use Rattle.interface_callers.proofs.Rows.{RowIs}
use Rattle.interface_callers.proofs.Temporary.{destroy_done}
use Rattle.transit_ipc.specs.Answering.{without_first}
use Rattle.transit_ipc.specs.Calling.{PortCall}
use Rattle.transit_ipc.specs.Inner.{IsFirst, received_span}
use Rattle.transit_ipc.specs.Outcome.{Outcome}
use Rattle.transit_ipc.specs.PortMachine.{PortMachine, put_port}
use Rattle.transit_ipc.specs.Seen.{memory_seen, port_seen, ports_seen}
use Rattle.transit_ipc.specs.Tying.{AreTied, CanCall}
use Rattle.transit_ipc.specs.declared.port.Message.{Message}
use Rattle.transit_ipc.specs.declared.port.Port.{Port}
use Rattle.transit_ipc.specs.declared.table.Ports.{Ports}
use Rattle.transit_ipc.proofs.Calling.CallAgain.{call_is}
use Rattle.transit_ipc.proofs.Calling.CallsSoFar.{Goes, goes_none, goes_on, port_call, tied_none}
use Rattle.transit_ipc.proofs.Commands.MoveOut.{Moves, finished, moved_at, received_row}
use Rattle.transit_ipc.proofs.Commands.ReceiveRows.{Ends, HasReceived, empty, ended, ends, is_message, may, nobody, received, source, unseen}
use Rattle.transit_ipc.proofs.Ties.CacheRemoved.{seen_received, tied_received}
use Rattle.transit_ipc.proofs.Commands.SendRows.{unmapped}
use Rattle.transit_ipc.proofs.Ties.Alike.{tied_like}

module _ {Manager X Chooser : Type 0} (M : GhostsOfMapper X) (G : GhostsOfGmi Manager X Chooser) (old : Ports Manager) (before : X) (can : CanCall G old (M.held before) (M.page_bytes before)) (port : PortId) (cache : CacheId) (page : PageNo) where
  abbrev m : Machine
  m = G.machine old.gmi (M.held before)

  abbrev ports : List Port
  ports = old.ports.items

  abbrev seen : PortMachine
  seen = ports_seen m ports

  abbrev t : AreTied m ports
  t = can.tied

  abbrev command : PortCommand
  command = commands.Receive port cache page

  pub receive_nobody : (port.0 ≡ 0) ⊎ (length ports < port.0) → PortCall M G before old command (Err (troubles.Refused refusals.NoPort)) before old
  receive_nobody none = port_call M G old before can before old 0 (omega arith) (goes_none M G old before can) t command (Err (troubles.Refused refusals.NoPort)) (λ rises. tt) tt (λ h rises. nobody m ports t port cache page none h)

  module _ (place : ℕ) (p : Port) (there : slice_get ports place ≡ Some p) (at : port.0 ≡ suc place) where
    -- no message waits
    pub receive_empty : (r : Refusal) → IsFirst p (Err r) → PortCall M G before old command (Err (troubles.Refused r)) before old
    receive_empty refusals.PortEmpty none = port_call M G old before can before old 0 (omega arith) (goes_none M G old before can) t command (Err (troubles.Refused refusals.PortEmpty)) (λ rises. tt) tt (λ h rises. empty m ports t port cache page place p there at none h)
    receive_empty r none = absurd none

    module _ (x : Message) (first : slice_get p.messages.items 0 ≡ Some x) where
      pub some_pages : 1 ≤ x.pages
      some_pages = (is_message m ports t port cache page place p there at x first).some

      module _ (after : X) (next : Manager) (result : Result (Unit {0}) Trouble) (move : MapperCall M (meanings_of G) before old.gmi (vm_commands.Move (received_span ports x cache page)) (done_by result) after next) where
        abbrev n : Machine
        n = G.machine next (M.held after)

        moves : Moves m (received_span ports x cache page) (source m ports t port cache page place p there at x first) (done_by result) n
        moves =
            let it = call_is M G old.gmi next before after (vm_commands.Move (received_span ports x cache page)) (done_by result) [] ((goes_none M G old before can).able) move in
            moved_at (segments_of (M.held after)) m (received_span ports x cache page) (source m ports t port cache page place p there at x first) (may m ports t port cache page place p there at x first) (G.forest old.gmi (M.held before)) result n it.rises it.is.outcome

        tied_moved : AreTied n []
        tied_moved = tied_like m n [] moves.like (tied_none m ports t)

        pub goes_moved : Goes M G old before can after next 1
        goes_moved = goes_on M G old before can before after old.gmi next 0 (goes_none M G old before can) (vm_commands.Move (received_span ports x cache page)) (done_by result) move tied_moved

        pub moved_few : G.made old.gmi ≤ 2 ^ 61 → G.made next ≤ 2 ^ 62
        moved_few few = omega (arith, few, goes_moved.made)

        pub moved_fits : Fits (M.page_bytes after) (G.machine next (M.held after))
        moved_fits = goes_moved.able.fits

        abbrev EndsSo : Result (Unit {0}) Trouble → Type 0
        EndsSo r = Ends m ports t port cache page place p there at x first r n

        as_ended : (r : Result (Unit {0}) Trouble) → finished (done_by r) n x.cache.0 ≡ ended m ports t port cache page place p there at x first r n
        as_ended (Ok u) = refl
        as_ended (Err trouble) = refl

        came_to : EndsSo result
        came_to = ends m ports t port cache page place p there at x first result n
            (subst (RowIs (received_row m (received_span ports x cache page) (source m ports t port cache page place p there at x first)) m (done_by result)) (as_ended result) moves.row)

      -- It is received.
      pub receive_done : (after : X) (next : Manager) → (move : MapperCall M (meanings_of G) before old.gmi (vm_commands.Move (received_span ports x cache page)) (Ok replies.Done) after next)
          → (last : X) (new : Ports Manager) (a : Answer) → MapperCall M (meanings_of G) after next (vm_commands.Destroy x.cache) a last new.gmi
          → (q : Port) → new.ports.items ≡ set ports place q → q.depth ≡ p.depth → deque_capacity q.messages ≡ deque_capacity p.messages → q.messages.items ≡ drop 1 p.messages.items
          → PortCall M G before old command (Ok replies.Done) last new
      receive_done after next move last new a destroy q items depth room rest =
          let n : Machine = G.machine next (M.held after) in
          let later : Machine = G.machine new.gmi (M.held last) in
          let like = (moves after next (Ok tt) move).like in
          let goes = goes_moved after next (Ok tt) move in
          let message = is_message m ports t port cache page place p there at x first in
          let d = shape_cache m n like x.cache.0 message.cache message.there in
          let free : is_mapped n x.cache.0 ≡ false = ap (λ (actors : List (Option Actor)). list_any (maps_in x.cache.0) actors) like.actors ∙ unmapped m ports t x.cache.0 (unseen m ports t port cache page place p there at x first) in
          let it = call_is M G next new.gmi after last (vm_commands.Destroy x.cache) a [] goes.able destroy in
          let gone : later ≡ without n x.cache.0 = (destroy_done (segments_of (M.held last)) n (G.forest next (M.held after)) x.cache d.0 d.1 (still_temporary m n like t.temporary x.cache.0 d.0 d.1) free a later it.rises it.is.outcome).next in
          let h : HasReceived m ports t port cache page place p there at x first (without n x.cache.0) = came_to after next (Ok tt) move in
          let put = received m ports t port cache page place p there at x first h.cache_to in
          let is : later ≡ without (put_cache m cache.0 put) x.cache.0 = gone ∙ h.is in
          let segment = t.temporary cache.0 h.cache_to h.found in
          let tied : AreTied (without (put_cache m cache.0 put) x.cache.0) (set ports place q) = tied_received m ports t place p q there depth room x first rest cache.0 h.cache_to put h.found h.visible_to segment in
          let tied_now : AreTied later new.ports.items = subst (λ (ps : List Port). AreTied later ps) (sym items) (subst (λ (y : Machine). AreTied y (set ports place q)) (sym is) tied) in
          let same : ports_seen later new.ports.items ≡ put_port (record seen { memory = put_cache (memory_seen m ports) cache.0 put }) port.0 (without_first (port_seen m p)) =
          (λ i. ports_seen (is i) (items i)) ∙ seen_received m ports t place p q there depth room x first rest cache.0 h.cache_to put h.found h.visible_to segment port.0 at in
          port_call M G old before can last new 2 (omega arith)
          (goes_on M G old before can after last next new.gmi 1 goes (vm_commands.Destroy x.cache) a destroy (tied_none later new.ports.items tied_now)) tied_now command (Ok replies.Done) (λ rises. tt) tt
          (λ g rises. subst (λ (y : PortMachine). Outcome seen command g (Ok replies.Done) y rises) (sym same) (h.outcome g rises))

      -- It isn't, and the message is still the first.
      pub receive_failed : (after : X) (new : Ports Manager) (trouble : Trouble) → MapperCall M (meanings_of G) before old.gmi (vm_commands.Move (received_span ports x cache page)) (Err trouble) after new.gmi → new.ports.items ≡ ports
          → PortCall M G before old command (Err trouble) after new
      receive_failed after new trouble move items =
          let later : Machine = G.machine new.gmi (M.held after) in
          let stays = came_to after new.gmi (Err trouble) move in
          let tied : AreTied later new.ports.items = subst (λ (ps : List Port). AreTied later ps) (sym items) (subst (λ (y : Machine). AreTied y ports) (sym stays.0) t) in
          let same : ports_seen later new.ports.items ≡ seen = λ i. ports_seen (stays.0 i) (items i) in
          port_call M G old before can after new 1 (omega arith) (goes_moved after new.gmi (Err trouble) move) tied command (Err trouble) (λ rises. tt) tt
          (λ g rises. subst (λ (y : PortMachine). Outcome seen command g (Err trouble) y rises) (sym same) (stays.1 g rises))
