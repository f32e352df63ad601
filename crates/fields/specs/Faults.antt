-- The name of each fault (document 01, 'Command file', the paragraph on faults), as the stopped line has it. Assumes nothing.
use Rattle.std.specs.Prelude.{List, ℕ}
use Rattle.fields.specs.declared.fault.Fault.{Fault}
use Rattle.fields.specs.declared.fault.Fault.TheVariants.{MissingField, CutField, UnknownField, FieldOrder, FieldLength, BadRole, InputTooLong}
use Rattle.records.specs.Letters.{ascii}

unfoldable pub fault_text : Fault → List ℕ
fault_text MissingField = ascii "MissingField"
fault_text CutField = ascii "CutField"
fault_text UnknownField = ascii "UnknownField"
fault_text FieldOrder = ascii "FieldOrder"
fault_text FieldLength = ascii "FieldLength"
fault_text BadRole = ascii "BadRole"
fault_text InputTooLong = ascii "InputTooLong"
