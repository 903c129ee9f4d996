use Rattle.std.proofs.Common.{◌+◌, ◌≤◌, ℕ, List, length, refl, ap, sym, ◌∙◌, arith}
use Rattle.std.proofs.lemmas.List.{length-map}
use Rattle.vm_ids.specs.declared.reply.Reply.TheVariants.{Done}
use Rattle.vm_model.specs.Answering.{held_for, put_cache, put_pages, reply}
use Rattle.vm_model.specs.Seen.{cache_seen, machine_seen}
use Rattle.vm_model.proofs.Machines.Awaiting.{inside_end, invalidate_unless, named_there, seen_there}
use Rattle.vm_model.proofs.Machines.Sound.{seen_copied}
use Rattle.vm_model.proofs.Machines.Taking.{counted}
use Rattle.vm_model.proofs.extents.invalidate.Goals as goal

pub returns-clause-outcome : goal.returns-clause-outcome
returns-clause-outcome c = λ h held.
    let t = c.args.tables.now in
    let e = c.args.extent.now in
    let m = machine_seen t in
    let n = e.cache.0 in
    let named = named_there t n c.requires.named in
    let ends : e.first.0 + e.pages ≤ length (cache_seen named.0).pages = omega (arith, c.requires.within, counted t n named.0 named.1, length-map named.0.pages.items (λ p. p.items)) in
    invalidate_unless m e (held_for m h n) (cache_seen named.0) named.2 (seen_there t n named.0 named.1) named.3 (inside_end e.first.0 e.pages (cache_seen named.0) ends) c.requires.unlocked
    ∙ ap (λ (part : List (List ℕ)). reply Done (put_cache m n (put_pages e.first.0 part (cache_seen named.0)))) held
    ∙ ap (reply Done) (sym (c.put_in_cache.ensures.machine ∙ seen_copied t n e.first.0 named.0 _ _ named.1 refl))
