use Rattle.std.proofs.Common.{rules, ◌≡◌, ◌<◌, ◌≤◌, ◌^◌, ap, sym, ◌∙◌, arith, List, None, Some, length, get_or, set, map, length-set}
use Rattle.std.proofs.lemmas.List.{length-map}
use Rattle.page_tables.specs.Membership.{Membership, list_of}
use Rattle.page_tables.specs.Links.{list_in, link_of}
use Rattle.page_tables.specs.Threads.{head_of}
use Rattle.page_tables.specs.declared.lists.Link.{Link}
use Rattle.page_tables.proofs.Columns.{on_below}
use Rattle.page_tables.proofs.Threading.{count_few, lists-added}
use Rattle.page_tables.proofs.LinkReads.{same_membership, read_as, listed, added_by}
use Rattle.page_tables.proofs.lists.EntryLists.add.Goals as goal

pub set_before-requires : goal.set_before-requires
set_before-requires c =
    let below : c.args.list < length c.self.inside.heads.items = omega (arith, c.requires.list, ap (λ (m : Membership). m.lists) c.self.view_is) in
    let at : head_of c.self.inside.heads.items c.args.list ≡ c.index-front.result.now = read_as c.self.inside.heads.items c.args.list c.index-front.result.now None below c.index-front.ensures in
    λ e h. on_below c.self.inside.links e c.args.list ((c.self.invariant.first c.args.list e (at ∙ h)).0)

pub overflow_add-index_mut : goal.overflow_add-index_mut
overflow_add-index_mut c =
    let below : c.args.list < length c.self.inside.heads.items = omega (arith, c.requires.list, ap (λ (m : Membership). m.lists) c.self.view_is) in
    let at : get_or c.self.inside.counts.items c.args.list 0 ≡ c.index_mut-2.result.now = read_as c.self.inside.counts.items c.args.list c.index_mut-2.result.now 0 (omega (arith, c.self.invariant.counts_length)) c.index_mut-2.ensures.value in
    let few : c.index_mut-2.result.now ≤ 2 ^ 18 = omega (arith, count_few c.self.inside.heads.items c.self.inside.counts.items c.self.inside.links c.args.list c.self.invariant below) in
    search rules

pub invariant_of-self : goal.invariant_of-self
invariant_of-self c =
    let below : c.args.list < length c.self.inside.heads.items = omega (arith, c.requires.list, ap (λ (m : Membership). m.lists) c.self.view_is) in
    let within : c.args.entry < length c.self.inside.links = omega (arith, c.requires.entry, ap (λ (m : Membership). length m.on) c.self.view_is, length-map c.self.inside.links list_in) in
    let none : (link_of c.self.inside.links c.args.entry).list ≡ None = sym (listed c.self.inside.links c.args.entry) ∙ ap (λ (m : Membership). list_of m c.args.entry) c.self.view_is ∙ c.requires.loose in
    let front : head_of c.self.inside.heads.items c.args.list ≡ c.index-front.result.now = read_as c.self.inside.heads.items c.args.list c.index-front.result.now None below c.index-front.ensures in
    let at : get_or c.self.inside.counts.items c.args.list 0 ≡ c.index_mut-2.result.now = read_as c.self.inside.counts.items c.args.list c.index_mut-2.result.now 0 (omega (arith, c.self.invariant.counts_length)) c.index_mut-2.ensures.value in
    rw (c.set.ensures, c.set_before.ensures) (added_by c.self.inside.heads.items c.self.inside.counts.items c.self.inside.links c.args.list c.args.entry c.index-front.result.now c.index_mut-2.result.now c.self.invariant below within none front at)

pub returns : goal.returns
returns c =
    let heads : length (set c.self.inside.heads.items c.args.list (Some c.args.entry)) ≡ c.args.self.now.lists = length-set c.self.inside.heads.items c.args.list (Some c.args.entry) ∙ ap (λ (m : Membership). m.lists) c.self.view_is in
    let link : Link = record { list = Some c.args.list; before = None; behind = c.index-front.result.now } in
    let on : map list_in c.set.new.self ≡ set c.args.self.now.on c.args.entry (Some c.args.list) =
    ap (λ (ls : List Link). map list_in ls) (c.set.ensures ∙ ap (λ (ls : List Link). set ls c.args.entry link) c.set_before.ensures)
    ∙ lists-added c.self.inside.links c.args.entry c.args.list c.index-front.result.now
    ∙ ap (λ (m : Membership). set m.on c.args.entry (Some c.args.list)) c.self.view_is in
    same_membership _ _ _ _ heads on
