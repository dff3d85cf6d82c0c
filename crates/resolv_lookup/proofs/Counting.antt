-- The count of faults, over several questions.
use Rattle.std.proofs.Common.{◌≡◌, ℕ, ◌≤◌, Bool, true, false, List, Result, Ok, Err, IfErr, arith, subst, sym}
use Rattle.std.specs.Prelude.{is_none, if◌then◌else◌}
use Rattle.dns_values.specs.Source.{Rose}
use Rattle.dns_base.specs.Message.{first_question}
use Rattle.dns_base.specs.Canonical.{canonical_name}
use Rattle.resolv_lookup.specs.declared.fault.QueryFault.{QueryFault}
use Rattle.resolv_lookup.specs.declared.fault.HostFault.{HostFault}
use Rattle.resolv_lookup.specs.declared.fault.HostFault.TheVariants.{Query, NoQuestion, CnameLoop, NoMemory}
use Rattle.resolv_lookup.specs.Asked.{octets_in, IsCounted}
use Rattle.resolv_lookup.specs.Hosts.{Hosts, hosts_found, HostIsCounted}

-- A count that stood still or rose, and then rose, rose.
pub rises : (old between new : ℕ) → old ≤ between → Rose between new → Rose old new
rises old between new le rose = (omega (arith, rose.0), λ ne. grind (arith, rose.0, rose.1))

-- A fault was counted since an earlier moment too.
pub counted_since : (old between new : ℕ) (fault : QueryFault) → old ≤ between → IsCounted between new fault → IsCounted old new fault
counted_since old between new fault le counted = λ ne. rises old between new le (counted ne)

-- the same of the fault of a host
pub host_since : (old between new : ℕ) (fault : HostFault) → old ≤ between → HostIsCounted between new fault → HostIsCounted old new fault
host_since old between new (Query fault) le counted = counted_since old between new fault le counted
host_since old between new NoQuestion le counted = tt
host_since old between new CnameLoop le counted = tt
host_since old between new NoMemory le counted = tt

-- An answer that is checked gives no fault of a question.
checked_counted : (old new : ℕ) (b c : Bool) (hosts : Hosts)
    → IfErr {T = Hosts} {E = HostFault} (if b then Err NoQuestion else if c then Err CnameLoop else Ok hosts) (HostIsCounted old new)
checked_counted old new true c hosts = tt
checked_counted old new false true hosts = tt
checked_counted old new false false hosts = tt

-- The fault of a host is counted as that of its second question.
pub hosts_counted : {A : Type 0} (octets_of : A → List ℕ) (aaaa a : Result A QueryFault) (result : Result Hosts HostFault) (old new : ℕ)
    → result ≡ hosts_found (octets_in octets_of aaaa) (octets_in octets_of a) → IfErr aaaa (IsCounted old new) → IfErr result (HostIsCounted old new)
hosts_counted octets_of (Ok x) a result old new is counted =
    subst (λ r. IfErr r (HostIsCounted old new)) (sym is)
    (checked_counted old new (is_none (first_question (octets_of x))) (is_none (canonical_name (octets_of x))) (record { aaaa = Ok (octets_of x); a = octets_in octets_of a }))
hosts_counted octets_of (Err fault) (Ok x) result old new is counted =
    subst (λ r. IfErr r (HostIsCounted old new)) (sym is)
    (checked_counted old new (is_none (first_question (octets_of x))) (is_none (canonical_name (octets_of x))) (record { aaaa = Err fault; a = Ok (octets_of x) }))
hosts_counted octets_of (Err fault) (Err other) result old new is counted = subst (λ r. IfErr r (HostIsCounted old new)) (sym is) counted

-- What was counted at the end was counted since an earlier moment.
pub counted_before : (old between new : ℕ) (result : Result Hosts HostFault) → old ≤ between → IfErr result (HostIsCounted between new) → IfErr result (HostIsCounted old new)
counted_before old between new (Ok hosts) le counted = tt
counted_before old between new (Err fault) le counted = host_since old between new fault le counted
