use Rattle.std.proofs.Common.{◌≡◌, ◌+◌, ◌-◌, ◌<◌, ◌≤◌, ap, arith, lt-ltb}
use Rattle.std.proofs.lemmas.Bool.{false≢true}
use Rattle.std.proofs.lemmas.Bool.Decides.{Decides-ltb}
use Rattle.vm_ids.specs.declared.command.Extent.{Extent}
use Rattle.vm_ids.specs.declared.node_name.NodeName.TheVariants.{Live}
use Rattle.vm_ids.specs.declared.numbers.CacheId.{CacheId}
use Rattle.vm_ids.specs.declared.numbers.PageNo.{PageNo}
use Rattle.vm_ids.specs.Forest.Commands.{extent_names}
use Rattle.vm_ids.specs.Forest.NameLists.{◌∈◌}
use Rattle.vm_ids.proofs.Forest.Laws.Ranges.{ranges_hold_their_pages}
use Rattle.page_commands.proofs.translations.is_in.Goals as goal

named : (e : Extent) (cache : CacheId) (page : PageNo) → cache.0 ≡ e.cache.0 → e.first.0 ≤ page.0 → page.0 < e.first.0 + e.pages → Live cache page ∈ extent_names e
named e cache page same from below =
    let k = page.0 - e.first.0 in
    let at : page.0 ≡ e.first.0 + k = omega (arith, from) in
    (ranges_hold_their_pages e.cache e.first.0 e.pages (Live cache page)).1 (k, omega (arith, from, below), λ i. Live (record { 0 = same i }) (record { 0 = at i }))

of_name : (e : Extent) (cache : CacheId) (page : PageNo) → Live cache page ∈ extent_names e → (cache.0 ≡ e.cache.0) × (e.first.0 ≤ page.0) × (page.0 < e.first.0 + e.pages)
of_name e cache page i =
    let r = (ranges_hold_their_pages e.cache e.first.0 e.pages (Live cache page)).0 i in
    let same : cache ≡ e.cache = cc r.2 in
    let at : page ≡ (record { 0 = e.first.0 + r.0 }) = cc r.2 in
    let number = ap (λ (p : PageNo). p.0) at in
    (ap (λ (c : CacheId). c.0) same, omega (arith, number), omega (arith, number, r.1))

pub returns-then-cache-extent : goal.returns-then-cache-extent
returns-then-cache-extent c = (λ t. absurd (false≢true t), λ i. absurd (c.if-cache-extent.true (of_name c.args.extent c.args.cache c.args.page i).0))

pub returns-then-page-extent : goal.returns-then-page-extent
returns-then-page-extent c = (λ t. absurd (false≢true t), λ i. absurd (let p = of_name c.args.extent c.args.cache c.args.page i in omega (arith, p.1, c.if-page-extent.true)))

pub returns : goal.returns
returns c =
    let e = c.args.extent in
    let k = c.args.page.0 - e.first.0 in
    let from : e.first.0 ≤ c.args.page.0 = omega (arith, c.if-page-extent.false) in (
      λ t. (let low : k < e.pages = (Decides-ltb k e.pages).0 t in named e c.args.cache c.args.page c.if-cache-extent.false from (omega (arith, low, from))),
      λ i. (let p = of_name e c.args.cache c.args.page i in lt-ltb k e.pages (omega (arith, p.2, from))),
    )
