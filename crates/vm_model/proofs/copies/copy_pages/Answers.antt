use Rattle.std.proofs.Common.{◌≡◌, Bool, Option, [], map, take, drop, ap, sym, ◌∙◌}
use Rattle.std.specs.Option.{option_map_or}
use Rattle.vm_ids.specs.declared.refusal.Refusal.TheVariants.{WriteDenied}
use Rattle.vm_ids.specs.declared.reply.Reply.TheVariants.{Done}
use Rattle.vm_model.specs.Answering.{put_span, reply, unless}
use Rattle.vm_model.specs.Seen.{cache_seen, machine_seen, pages_seen}
use Rattle.vm_model.specs.declared.tables.Cache.{Cache}
use Rattle.vm_model.proofs.Machines.Awaiting.{copy_unless, seen_there, unless_false}
use Rattle.vm_model.proofs.Machines.Sound.{seen_copied}
use Rattle.vm_model.proofs.copies.copy_pages.Goals as goal

pub returns-clause-outcome : goal.returns-clause-outcome
returns-clause-outcome c = λ h allowed.
    let t = c.args.tables.now in
    let s = c.args.span.now in
    let m = machine_seen t in
    let S = c.in_ok-check_copy.ensures.spanned in
    let pages : map (λ p. p.items) c.in_ok-pages.pages.items ≡ take s.pages (drop s.from_page.0 (pages_seen S.source)) = c.in_ok-pages.ensures.pages ∙ ap (λ (o : Option Cache). take s.pages (drop s.from_page.0 (option_map_or pages_seen o []))) S.from in
    let done = reply Done (put_span m s (cache_seen S.source) (cache_seen S.destination)) in
    copy_unless m s h (cache_seen S.source) (cache_seen S.destination) (seen_there t s.from.0 S.source S.from) (seen_there t s.to.0 S.destination S.to) S.inside S.within c.in_ok-check_copy.ensures.apart c.in_ok-check_copy.ensures.unlocked
    ∙ ap (λ (b : Bool). unless b WriteDenied m done) allowed
    ∙ unless_false WriteDenied m done
    ∙ ap (reply Done) (sym (c.put_in_cache.ensures.machine ∙ seen_copied t s.to.0 s.to_page.0 S.destination _ _ S.to pages))
