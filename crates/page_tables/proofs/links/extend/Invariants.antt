use Rattle.std.proofs.Common.{◌≡◌, ◌+◌, ◌-◌, ◌≤◌, length, vec_capacity}
use Rattle.page_tables.specs.Links.{links_in}
use Rattle.page_tables.proofs.links.extend.Given as goal

abbrev pub invariant-loop-list : goal.invariant-loop-list
invariant-loop-list l = record {
  within : length l.there.items ≤ l.entries;
  room : l.entries ≤ vec_capacity l.there;
  same : links_in l.list l.entries l.there.items ≡ links_in l.list l.entries l.initial.there.items;
}

abbrev pub decreases-loop-list : goal.decreases-loop-list
decreases-loop-list l = l.entry + 1 - length l.there.items
