use Rattle.std.proofs.Common.{◌≡◌, inl, inr, sym, refl, subst, ◌∙◌}
use Rattle.dns_base.specs.declared.record_data.RecordData.{RecordData}
use Rattle.dns_base.specs.Data.{data_spelling}
use Rattle.dns_base.specs.RecordData.{data_view}
use Rattle.dns_base.specs.Compression.{with_data, with_octets}
use Rattle.dns_base.proofs.Compressing.{on_ok}
use Rattle.dns_base.proofs.compressor.Compressor.put_data.Goals as goal

pub returns-in-A-clause-ok : goal.returns-in-A-clause-ok
unfolding with_data data_spelling
returns-in-A-clause-ok c =
    let P : RecordData → Type 0 = λ r. with_octets (data_spelling (data_view r)) c.args.self.now ≡ with_data (data_view r) c.args.self.now in
    let same : P c.args.rdata.now =
    elim c.in-A.is [
      | inl p ↦ subst P (sym p.1) refl
      | inr i ↦ elim i [
        | inl p ↦ subst P (sym p.1) refl
        | inr i ↦ elim i [
          | inl p ↦ subst P (sym p.1) refl
          | inr i ↦ elim i [
            | inl p ↦ subst P (sym p.4) refl
            | inr i ↦ elim i [
              | inl p ↦ subst P (sym p.4) refl
              | inr i ↦ elim i [
                | inl p ↦ subst P (sym p.1) refl
                | inr i ↦ elim i [ inl p ↦ subst P (sym p.1) refl | inr p ↦ subst P (sym p.1) refl ]
              ]
            ]
          ]
        ]
      ]
    ] in
    on_ok _ _ c.put_spelled.result (λ e. e ∙ same) c.put_spelled.ensures.ok
