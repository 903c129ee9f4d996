-- What waits at a port is what was sent to it and not received yet, in order.
use Rattle.std.proofs.Common.{◌≡◌, ◌≢◌, ◌==◌, ℕ, zero, suc, ◌+◌, ◌≤◌, Bool, true, false, cond, List, [], ◌∷◌, ◌++◌, length, take, drop, Option, Some, refl, sym, ap, subst, inl, inr, ◌∙◌, arith, append_assoc, append-nil}
use Rattle.std.specs.Option.{option_map_or}
use Rattle.std.specs.Prelude.{slice_get, Ok, Err}
use Rattle.std.proofs.lemmas.Bool.{eqb-true}
use Rattle.std.proofs.lemmas.Bool.Decides.{nat_tests}
use Rattle.std.proofs.lemmas.List.{length-take-le}
use Rattle.std.proofs.lemmas.Option.{slice_get_within}
use Rattle.std.proofs.Math.Seq.{drop-append_seam, take-append_seam}
use Rattle.vm_ids.specs.declared.command.PortCommand.{PortCommand}
use Rattle.vm_ids.specs.declared.command.PortCommand.TheVariants as commands
use Rattle.vm_ids.specs.declared.reply.Trouble.TheVariants as troubles
use Rattle.vm_model.specs.Answering as plain
use Rattle.vm_model.proofs.Parts.ListParts.{numbered_set}
use Rattle.vm_model.proofs.Parts.Lists.{get_set_other, get_set_same}
use Rattle.interface_callers.proofs.Words.{Answer, Cache, CacheId, Command, Extent, MapperCounts, PageNo, PortId, Segments, cache_of, overwrite, passes_end, plain_forest, put_cache, put_pages}
use Rattle.transit_ipc.specs.Answering.{Answered, answer_of, empty_port, make_port_of, pages_of, plain_of, put_last, receive_of, send_of, without_first}
use Rattle.transit_ipc.specs.Laws.{MessagesAreInOrder, first_length, pages_held, received, received_by, sent, sent_by}
use Rattle.transit_ipc.specs.Outcome.{Outcome, Stays}
use Rattle.transit_ipc.specs.PortMachine.{Message, Port, PortMachine, port_in, port_of, put_in, put_port, take_number, waiting}
use Rattle.transit_ipc.proofs.Definition.Rows.{each_some, each_unless}

-- One port changes

abbrev messages : Option Port → List Message
messages o = option_map_or (λ (p : Port). p.messages) o []

put_same : (ports : List Port) (n : ℕ) (p q : Port) → port_in ports n ≡ Some p → port_in (put_in ports n q) n ≡ Some q
put_same ports zero p q there = absurd (cc there)
put_same ports (suc i) p q there = get_set_same ports i q (slice_get_within ports i p there)

put_other : (ports : List Port) (n k : ℕ) (p q : Port) → port_in ports n ≡ Some p → n ≢ k → port_in (put_in ports n q) k ≡ port_in ports k
put_other ports zero k p q there apart = absurd (cc there)
put_other ports (suc i) zero p q there apart = refl
put_other ports (suc i) (suc j) p q there apart = get_set_other ports i j q (λ same. apart (ap suc (sym same)))

-- a new port comes with no message
behind : (ports : List Port) (depth j : ℕ) → messages (slice_get (ports ++ empty_port depth ∷ []) j) ≡ messages (slice_get ports j)
behind [] depth zero = refl
behind [] depth (suc j) = refl
behind (p ∷ ps) depth zero = refl
behind (p ∷ ps) depth (suc j) = behind ps depth j

made : (ports : List Port) (depth k : ℕ) → messages (port_in (ports ++ empty_port depth ∷ []) k) ≡ messages (port_in ports k)
made ports depth zero = refl
made ports depth (suc j) = behind ports depth j

-- One answer

-- what waits and is sent is what is received and then waits
abbrev Keeps : ℕ → PortCommand → PortMachine → Answered → Type 0
Keeps k command m a =
    waiting m k ++ sent_by k a.answer command m ≡ received_by k a.answer command m a.next ++ waiting a.next k

same : (m next : PortMachine) (k : ℕ) → waiting next k ≡ waiting m k → waiting m k ++ [] ≡ waiting next k
same m next k e = append-nil (waiting m k) ∙ sym e

port_kept : (k : ℕ) (m : PortMachine) (depth : ℕ) → Keeps k (commands.Port depth) m (make_port_of m depth)
unfolding make_port_of
port_kept k m depth =
    each_unless (Keeps k (commands.Port depth) m) _ _ m _ (same m m k refl)
    (λ room. same m (record m { ports = m.ports ++ empty_port depth ∷ [] }) k (made m.ports depth k))

sent_when : (k : ℕ) (port : PortId) (here : Bool) (m next : PortMachine) (p : Port) (now then : Message) → (port.0 == k) ≡ here → port_of m port.0 ≡ Some p → now ≡ then
    → waiting m k ++ cond here (now ∷ []) [] ≡ waiting (put_port (record next { ports = m.ports }) port.0 (put_last then p)) k
sent_when k port true m next p now then is there e =
    let at : port.0 ≡ k = eqb-true port.0 k is in
    subst (λ (n : ℕ). waiting m n ++ now ∷ [] ≡ waiting (put_port (record next { ports = m.ports }) port.0 (put_last then p)) n) at
    ((λ i. messages (there i) ++ e i ∷ []) ∙ sym (ap messages (put_same m.ports port.0 p (put_last then p) there)))
sent_when k port false m next p now then is there e =
    same m (put_port (record next { ports = m.ports }) port.0 (put_last then p)) k
    (ap messages (put_other m.ports port.0 k p (put_last then p) there (grind (arith, nat_tests))))

send_kept : (k : ℕ) (m : PortMachine) (port : PortId) (e : Extent) → Keeps k (commands.Send port e) m (send_of m port.0 e)
unfolding send_of
send_kept k m port e =
    let P = Keeps k (commands.Send port e) m in
    let next = take_number m in
    each_some P _ _ m _ (same m m k refl) (λ p there.
    each_unless P _ _ m _ (same m m k refl) (λ few.
    each_unless P _ _ m _ (same m m k refl) (λ room.
    each_some P _ _ next _ (same m next k refl) (λ c found.
    each_unless P _ _ next _ (same m next k refl) (λ inside.
    sent_when k port (port.0 == k) m next p (pages_held m.memory e.cache.0 e.first.0 e.pages) (pages_of c e) refl there
    (ap (λ (o : Option Cache). option_map_or (λ (c : Cache). take e.pages (drop e.first.0 c.pages)) o []) found))))))

-- what was put into a cache is there
put_there : {A : Type 0} (first : ℕ) (part whole : List A) → first + length part ≤ length whole → take (length part) (drop first (overwrite first part whole)) ≡ part
put_there {A} first part whole h =
    let many : length (take first whole) ≡ first = length-take-le first whole (omega (arith, h)) in
    let front : List A = take first whole in
    let rest : List A = part ++ drop (first + length part) whole in
    let split : overwrite first part whole ≡ front ++ rest = append_assoc front part (drop (first + length part) whole) in
    ap (λ xs. take (length part) (drop first xs)) split
    ∙ ap (λ n. take (length part) (drop n (front ++ rest))) (sym many)
    ∙ ap (take (length part)) (drop-append_seam front rest)
    ∙ take-append_seam part (drop (first + length part) whole)

first_is : (messages : List Message) (message : Message) → slice_get messages 0 ≡ Some message → messages ≡ message ∷ drop 1 messages
first_is [] message e = absurd (cc e)
first_is (x ∷ []) message e = let is : x ≡ message = cc e in ap (λ (y : Message). y ∷ []) is
first_is (x ∷ y ∷ rest) message e = let is : x ≡ message = cc e in ap (λ (z : Message). z ∷ y ∷ rest) is

received_when : (k : ℕ) (port : PortId) (here : Bool) (m next : PortMachine) (p : Port) (message got : Message) → (port.0 == k) ≡ here → port_of m port.0 ≡ Some p → slice_get p.messages 0 ≡ Some message
    → (port.0 ≡ k → got ≡ message) → waiting m k ++ [] ≡ cond here (got ∷ []) [] ++ waiting (put_port (record next { ports = m.ports }) port.0 (without_first p)) k
received_when k port true m next p message got is there waits e =
    let at : port.0 ≡ k = eqb-true port.0 k is in
    append-nil (waiting m k)
    ∙ subst (λ (n : ℕ). waiting m n ≡ got ∷ waiting (put_port (record next { ports = m.ports }) port.0 (without_first p)) n) at
    (ap messages there ∙ first_is p.messages message waits
    ∙ (λ i. sym (e at) i ∷ messages (sym (put_same m.ports port.0 p (without_first p) there) i)))
received_when k port false m next p message got is there waits e =
    same m (put_port (record next { ports = m.ports }) port.0 (without_first p)) k
    (ap messages (put_other m.ports port.0 k p (without_first p) there (grind (arith, nat_tests))))

got_message : (k : ℕ) (m : PortMachine) (port : PortId) (cache : CacheId) (first : PageNo) (p : Port) (message : Message) (c : Cache) → port_of m port.0 ≡ Some p → slice_get p.messages 0 ≡ Some message
    → cache_of m.memory cache.0 ≡ Some c → passes_end c first.0 (length message) ≡ false → port.0 ≡ k
    → pages_held (put_cache m.memory cache.0 (put_pages first.0 message c)) cache.0 first.0 (first_length m k) ≡ message
got_message k m port cache first p message c there waits found inside at =
    let many : first_length m k ≡ length message =
    ap (first_length m) (sym at) ∙ ap (λ (o : Option Port). option_map_or length (slice_get (messages o) 0) 0) there ∙ ap (λ (o : Option Message). option_map_or length o 0) waits in
    ap (pages_held (put_cache m.memory cache.0 (put_pages first.0 message c)) cache.0 first.0) many
    ∙ ap (λ (o : Option Cache). option_map_or (λ (c : Cache). take (length message) (drop first.0 c.pages)) o []) (numbered_set m.memory.caches cache.0 c (Some (put_pages first.0 message c)) found)
    ∙ put_there first.0 message c.pages (grind (arith, nat_tests))

receive_kept : (k : ℕ) (m : PortMachine) (port : PortId) (cache : CacheId) (first : PageNo) (h : Segments) → Keeps k (commands.Receive port cache first) m (receive_of m port.0 cache first h)
unfolding receive_of
receive_kept k m port cache first h =
    let P = Keeps k (commands.Receive port cache first) m in
    each_some P _ _ m _ (same m m k refl) (λ p there.
    each_some P _ _ m _ (same m m k refl) (λ message waits.
    each_some P _ _ m _ (same m m k refl) (λ c found.
    each_unless P _ _ m _ (same m m k refl) (λ inside.
    each_unless P _ _ m _ (same m m k refl) (λ unlocked.
    each_unless P _ _ m _ (same m m k refl) (λ allowed.
    let next = record m { memory = put_cache m.memory cache.0 (put_pages first.0 message c) } in
    received_when k port (port.0 == k) m next p message (pages_held next.memory cache.0 first.0 (first_length m k)) refl there waits
    (got_message k m port cache first p message c there waits found inside)))))))

-- Whatever a plain command is answered, the ports stay.
quiet : (k : ℕ) (command : Command) (m next : PortMachine) (a : Answer) → waiting next k ≡ waiting m k → Keeps k (commands.Plain command) m (record { answer = a; next = next })
quiet k command m next (Ok r) e = same m next k e
quiet k command m next (Err t) e = same m next k e

plain_kept : (k : ℕ) (m : PortMachine) (command : Command) (h : Segments) → Keeps k (commands.Plain command) m (plain_of m command h)
unfolding plain_of
plain_kept k m command h =
    let a = plain.answer_of m.memory (plain_forest m.memory) command h in
    each_unless (Keeps k (commands.Plain command) m) _ _ m _ (same m m k refl) (λ room. quiet k command m (record m { memory = a.next }) a.answer refl)

row_kept : (k : ℕ) (m : PortMachine) (command : PortCommand) (h : Segments) → Keeps k command m (answer_of m command h)
row_kept k m (commands.Port depth) h = port_kept k m depth
row_kept k m (commands.Send port e) h = send_kept k m port e
row_kept k m (commands.Receive port cache first) h = receive_kept k m port cache first h
row_kept k m (commands.Plain command) h = plain_kept k m command h

stays : (k : ℕ) (m : PortMachine) (command : PortCommand) (next : PortMachine) → Stays m command next → waiting next k ≡ waiting m k
stays k m (commands.Port depth) next is = ap (λ (x : PortMachine). waiting x k) is
stays k m (commands.Send port e) next (inl is) = ap (λ (x : PortMachine). waiting x k) is
stays k m (commands.Send port e) next (inr is) = ap (λ (x : PortMachine). waiting x k) is
stays k m (commands.Receive port cache first) next is = ap (λ (x : PortMachine). waiting x k) is
stays k m (commands.Plain command) next is = ap (λ (x : PortMachine). waiting x k) is

outcome_kept : (k : ℕ) (m : PortMachine) (command : PortCommand) (h : Segments) (a : Answer) (next : PortMachine) (rises : MapperCounts) → Outcome m command h a next rises → Keeps k command m (record { answer = a; next = next })
outcome_kept k m command h (Ok r) next rises o = subst (Keeps k command m) o (row_kept k m command h)
outcome_kept k m command h (Err (troubles.Refused r)) next rises o = subst (Keeps k command m) o (row_kept k m command h)
outcome_kept k m command h (Err (troubles.Mapper at)) next rises o = same m next k (ap (λ (x : PortMachine). waiting x k) o.0)
outcome_kept k m command h (Err troubles.Memory) next rises o = same m next k (stays k m command next o.0)

-- One after another

joined : {A : Type 0} (w s t r v q u : List A) → w ++ s ≡ r ++ v → v ++ t ≡ q ++ u → w ++ (s ++ t) ≡ (r ++ q) ++ u
joined w s t r v q u now later =
    sym (append_assoc w s t) ∙ ap (λ xs. xs ++ t) now ∙ append_assoc r v t ∙ ap (λ xs. r ++ xs) later ∙ sym (append_assoc r q u)

pub messages_are_in_order : MessagesAreInOrder
messages_are_in_order m after [] k chain = append-nil (waiting m k) ∙ ap (λ (x : PortMachine). waiting x k) (sym chain)
messages_are_in_order m after (s ∷ steps) k chain =
    joined (waiting m k) (sent_by k s.answer s.command s.before) (sent k steps) (received_by k s.answer s.command s.before s.next) (waiting s.next k) (received k steps) (waiting after k)
    (ap (λ (x : PortMachine). waiting x k ++ sent_by k s.answer s.command s.before) (sym chain.0) ∙ outcome_kept k s.before s.command s.segments s.answer s.next s.rises chain.1)
    (messages_are_in_order s.next after steps k chain.2)
