use Rattle.std.proofs.Common.{rules, ◌≡◌, ◌≢◌, ◌<◌, ℕ, ap, sym, ◌∙◌, arith, List, Option, None, Some, length, get_or, set, map}
use Rattle.std.proofs.lemmas.List.{length-map}
use Rattle.page_tables.specs.Membership.{Membership, list_of}
use Rattle.page_tables.specs.Links.{list_in, loose, link_of, with_before}
use Rattle.page_tables.specs.declared.lists.Link.{Link}
use Rattle.page_tables.proofs.Columns.{on_below, length-heads_past, length-with_behind}
use Rattle.page_tables.proofs.Threading.{count_one, lists-cut}
use Rattle.page_tables.proofs.LinkReads.{same_membership, read_as, in_range, taken_off_by}
use Rattle.page_tables.proofs.lists.EntryLists.take_off.Goals as goal

-- the entry is one of them, as it is on a list
below : (links : List Link) (m : Membership) (lists x : ℕ) → record { lists = lists; on = map list_in links } ≡ m → list_of m x ≢ None → x < length links
below links m lists x view some =
    let on : map list_in links ≡ m.on = ap (λ (n : Membership). n.on) view in
    omega (arith, in_range (map list_in links) x (λ s. some (ap (λ (xs : List (Option ℕ)). get_or xs x None) (sym on) ∙ s)), length-map links list_in)

pub get-link-requires : goal.get-link-requires
get-link-requires c = below c.self.inside.links c.args.self.now (length c.self.inside.heads.items) c.args.entry c.self.view_is c.requires

pub set_head-requires : goal.set_head-requires
set_head-requires c =
    let is = sym c.get-link.ensures in
    (c.self.invariant.members c.unwrap-list.result c.args.entry (ap (λ (l : Link). l.list) is ∙ c.unwrap-list.ensures)).known

pub set_behind-requires : goal.set_behind-requires
set_behind-requires c =
    let is = sym c.get-link.ensures in
    let m = c.self.invariant.members c.unwrap-list.result c.args.entry (ap (λ (l : Link). l.list) is ∙ c.unwrap-list.ensures) in
    λ e h. on_below c.self.inside.links e c.unwrap-list.result ((m.before e (ap (λ (l : Link). l.before) is ∙ h)).0)

pub set_before-requires : goal.set_before-requires
set_before-requires c =
    let is = sym c.get-link.ensures in
    let m = c.self.invariant.members c.unwrap-list.result c.args.entry (ap (λ (l : Link). l.list) is ∙ c.unwrap-list.ensures) in
    let size : length c.set_behind.new.links ≡ length c.self.inside.links = ap (λ (ls : List Link). length ls) c.set_behind.ensures ∙ length-with_behind c.self.inside.links c.get-link.result.before c.get-link.result.behind in
    λ e h. (let b : e < length c.self.inside.links = on_below c.self.inside.links e c.unwrap-list.result ((m.behind e (ap (λ (l : Link). l.behind) is ∙ h)).0) in omega arith)

pub index_mut-requires : goal.index_mut-requires
index_mut-requires c =
    let is = sym c.get-link.ensures in
    let known : c.unwrap-list.result < length c.self.inside.heads.items = (c.self.invariant.members c.unwrap-list.result c.args.entry (ap (λ (l : Link). l.list) is ∙ c.unwrap-list.ensures)).known in
    let below : c.unwrap-list.result < length c.self.inside.counts.items = omega (arith, c.self.invariant.counts_length) in
    search rules

pub overflow_sub-index_mut : goal.overflow_sub-index_mut
overflow_sub-index_mut c =
    let is = sym c.get-link.ensures in
    let onx : (link_of c.self.inside.links c.args.entry).list ≡ Some c.unwrap-list.result = ap (λ (l : Link). l.list) is ∙ c.unwrap-list.ensures in
    let known : c.unwrap-list.result < length c.self.inside.heads.items = (c.self.invariant.members c.unwrap-list.result c.args.entry onx).known in
    let at : get_or c.self.inside.counts.items c.unwrap-list.result 0 ≡ c.index_mut.result.now = read_as c.self.inside.counts.items c.unwrap-list.result c.index_mut.result.now 0 (omega (arith, c.self.invariant.counts_length)) c.index_mut.ensures.value in
    omega (arith, count_one c.self.inside.heads.items c.self.inside.counts.items c.self.inside.links c.unwrap-list.result c.args.entry c.self.invariant onx)

pub invariant_of-self : goal.invariant_of-self
invariant_of-self c =
    let is = sym c.get-link.ensures in
    let onx : (link_of c.self.inside.links c.args.entry).list ≡ Some c.unwrap-list.result = ap (λ (l : Link). l.list) is ∙ c.unwrap-list.ensures in
    let known : c.unwrap-list.result < length c.self.inside.heads.items = (c.self.invariant.members c.unwrap-list.result c.args.entry onx).known in
    let at : get_or c.self.inside.counts.items c.unwrap-list.result 0 ≡ c.index_mut.result.now = read_as c.self.inside.counts.items c.unwrap-list.result c.index_mut.result.now 0 (omega (arith, c.self.invariant.counts_length)) c.index_mut.ensures.value in
    rw (c.set.ensures, c.set_before.ensures, c.set_behind.ensures, c.set_head.ensures) (taken_off_by c.self.inside.heads.items c.self.inside.counts.items c.self.inside.links c.unwrap-list.result c.args.entry c.get-link.result c.index_mut.result.now c.self.invariant is c.unwrap-list.ensures at)

pub returns : goal.returns
returns c =
    let heads : length c.set_head.new.heads.items ≡ c.args.self.now.lists = ap (λ (hs : List (Option ℕ)). length hs) c.set_head.ensures ∙ length-heads_past c.self.inside.heads.items c.unwrap-list.result c.get-link.result.before c.get-link.result.behind ∙ ap (λ (m : Membership). m.lists) c.self.view_is in
    let on : map list_in c.set.new.self ≡ set c.args.self.now.on c.args.entry None =
    ap (λ (ls : List Link). map list_in ls) (c.set.ensures ∙ ap (λ (ls : List Link). set ls c.args.entry loose) (c.set_before.ensures ∙ ap (λ (ls : List Link). with_before ls c.get-link.result.behind c.get-link.result.before) c.set_behind.ensures))
    ∙ lists-cut c.self.inside.links c.args.entry c.get-link.result.before c.get-link.result.behind
    ∙ ap (λ (m : Membership). set m.on c.args.entry None) c.self.view_is in
    same_membership _ _ _ _ heads on
