-- Which table's word a history is counted by.
use Rattle.atomic_table.specs.Seated.{TableId}
use Rattle.joint_history.specs.declared.joint.Joint.{Joint}

abbrev pub word_of : {E : Type 0} → Joint E → TableId
word_of j = j.table.shared.table_id
