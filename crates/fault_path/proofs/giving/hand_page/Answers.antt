use Rattle.std.proofs.Common.{◌∙◌, arith}
use Rattle.local_cache.specs.declared.own_state.OwnState.TheVariants.{Resident}
use Rattle.fault_path.proofs.OnePage.OwnPage.{given_copies, given_gets, given_like}
use Rattle.fault_path.proofs.Rules.OwningRules.{apart, clear}
use Rattle.fault_path.proofs.giving.hand_page.Goals as goal

pub hand_stubs-requires-clause-from : goal.hand_stubs-requires-clause-from
hand_stubs-requires-clause-from c = let l = given_like c.args.caches.now c.requires.sound c.args.heir c.requires.heir.held c.set_resident.new.caches c.set_resident.ensures in l.held c.args.node ∙ c.requires.node

pub hand_stubs-requires-clause-to : goal.hand_stubs-requires-clause-to
hand_stubs-requires-clause-to c = let l = given_like c.args.caches.now c.requires.sound c.args.heir c.requires.heir.held c.set_resident.new.caches c.set_resident.ensures in l.held c.args.heir ∙ c.requires.heir.held

pub hand_stubs-requires-clause-apart : goal.hand_stubs-requires-clause-apart
hand_stubs-requires-clause-apart c =
    let l = given_like c.args.caches.now c.requires.sound c.args.heir c.requires.heir.held c.set_resident.new.caches c.set_resident.ensures in
    let e = given_gets c.args.caches.now c.requires.sound c.args.heir c.requires.heir.held c.set_resident.new.caches c.set_resident.ensures in
    apart c.args.caches.now c.set_resident.new.caches c.requires.sound c.args.node c.args.heir c.requires.node c.requires.heir.held c.requires.heir.name (Resident _) e c.set_resident.ensures.sound l

pub hand_stubs-requires-clause-clear : goal.hand_stubs-requires-clause-clear
hand_stubs-requires-clause-clear c =
    let l = given_like c.args.caches.now c.requires.sound c.args.heir c.requires.heir.held c.set_resident.new.caches c.set_resident.ensures in
    let e = given_gets c.args.caches.now c.requires.sound c.args.heir c.requires.heir.held c.set_resident.new.caches c.set_resident.ensures in
    clear c.args.caches.now c.set_resident.new.caches c.requires.sound c.args.node c.args.heir c.requires.node c.requires.heir.held c.requires.heir.name (Resident _) e c.set_resident.ensures.sound l

pub count_copy-requires : goal.count_copy-requires
count_copy-requires c =
    let same = given_copies c.args.caches.now c.requires.sound c.args.heir c.requires.heir.held c.set_resident.new.caches c.set_resident.ensures in
    let kept = c.hand_stubs.ensures.links.copies in
    omega (arith, same, kept, c.requires.copies)

pub returns : goal.returns
returns c = record {
  given = c.set_resident.new.caches;
  is_given = c.set_resident.ensures;
  handed = c.hand_stubs.new.caches;
  forest = c.hand_stubs.ensures.forest;
  links = c.hand_stubs.ensures.links;
  room = c.hand_stubs.ensures.room;
  is = c.count_copy.ensures.changed;
  sound = c.count_copy.ensures.sound c.hand_stubs.ensures.sound;
}
