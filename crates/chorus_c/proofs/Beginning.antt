-- What a machine begins with.
use Rattle.std.proofs.Common.{◌≡◌, ◌≤◌, ℕ, Some, ap, sym, ◌∙◌, subst, arith}
use Rattle.vm_port.specs.Mapping.{MapperInMemory, held_of}
use Rattle.vm_model.specs.Machine.{Machine, live_pages, start}
use Rattle.vm_model.specs.declared.limits.TheConstants.{LIVE_PAGES}
use Rattle.pvm_core.specs.Manager.{IsValid, Manager, machine_of, numbered}
use Rattle.chorus_c.specs.Parts.{IsKept}

none_live : 0 ≤ LIVE_PAGES
none_live = omega arith

none_counted : 0 ≤ 0
none_counted = omega arith

pub kept : (p : Manager) (m : MapperInMemory) (frames page : ℕ) → IsValid p (Some (held_of m)) → machine_of p (Some (held_of m)) ≡ start frames page
    → m.page_bytes ≡ page → numbered p ≡ 0 → IsKept (record { manager = p; mapper = m; bound = 0 })
kept p m frames page valid machine bytes made = record {
  valid = valid;
  fits = bytes ∙ sym (ap (λ (x : Machine). x.page_bytes) machine);
  live = subst (λ (x : Machine). live_pages x ≤ LIVE_PAGES) (sym machine) none_live;
  counted = subst (λ (n : ℕ). n ≤ 0) (sym made) none_counted;
}
