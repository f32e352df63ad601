-- Document 01's whole example, and one short input for each rule, all read by computation. Assumes nothing.
use mathlib.Core.Path.{◌≡◌, refl}
use mathlib.Core.Option.{none, some}
use mathlib.Core.List.{List, [], ◌∷◌, ◌++◌, map}
use Prim.Native.Nat.{ℕ}
use lib.ListN.{replicate}
use Rattle.machine.specs.Types.{Bytes}
use Rattle.fields.specs.declared.fault.Fault.{Fault}
use Rattle.fields.specs.declared.fault.Fault.TheVariants.{MissingField, CutField, UnknownField, FieldOrder, FieldLength, BadRole}
use Rattle.fields.specs.Numbers.{number, bytes_of}
use Rattle.fields.specs.Fields.{known, field, finish, number_field, role_field}
use Rattle.commands.specs.Commands.{Command, open_by, status_of, page_from, fields_of, contents, read_outer, File, read_from, too_long, read_all}

-- a field of eight bytes, and an open by 7
abbrev eight : (tag n : ℕ) → Bytes
eight tag n = tag ∷ 0x00 ∷ 0x08 ∷ bytes_of 8 n

abbrev open_7 : Bytes
open_7 = 0x08 ∷ 0x00 ∷ 0x0B ∷ eight 0x11 7

abbrev pub example : Bytes
example = open_7 ++ (0x06 ∷ 0x00 ∷ 0x0B ∷ eight 0x17 0) ++ (0x09 ∷ 0x00 ∷ 0x00 ∷ [])

abbrev stopping : List Command → Fault → ℕ → File
stopping cs e place = record { commands = cs; stop = some (record { fault = e; place = place }) }

-- open by 7, status of 0, and then a tag that is unknown, at 28
pub example_reads : read_all example ≡ stopping (open_by 7 ∷ status_of 0 ∷ []) UnknownField 28
unfolding number known field finish number_field fields_of contents read_outer read_from too_long
example_reads = refl

-- ---- the outer level: nothing, a cut tag, a tag that is unknown, a kind and a field out of order, a value past the end
abbrev outer : List Bytes
outer =
    []
    ∷ (0x08 ∷ [])
    ∷ (0x14 ∷ 0x00 ∷ 0x00 ∷ [])
    ∷ (0x06 ∷ 0x00 ∷ 0x00 ∷ [])
    ∷ (0x11 ∷ 0x00 ∷ 0x00 ∷ [])
    ∷ (0x08 ∷ 0x00 ∷ 0x01 ∷ [])
    ∷ (open_7 ++ open_7)
    ∷ []

pub outer_read : map read_all outer
    ≡ stopping [] MissingField 0
    ∷ stopping [] CutField 0
    ∷ stopping [] UnknownField 0
    ∷ stopping [] FieldOrder 0
    ∷ stopping [] FieldOrder 0
    ∷ stopping [] CutField 0
    ∷ stopping (open_by 7 ∷ []) FieldOrder 14
    ∷ []
unfolding number known field finish number_field fields_of contents read_outer read_from too_long
outer_read = refl

-- ---- in a value: no field, a cut one, an unknown one, another one, one past the value's end, one of another length, and one or one byte after the last
abbrev inner : List Bytes
inner =
    (0x08 ∷ 0x00 ∷ 0x00 ∷ [])
    ∷ (0x08 ∷ 0x00 ∷ 0x02 ∷ 0x11 ∷ 0x00 ∷ [])
    ∷ (0x08 ∷ 0x00 ∷ 0x03 ∷ 0x14 ∷ 0x00 ∷ 0x00 ∷ [])
    ∷ (0x08 ∷ 0x00 ∷ 0x0B ∷ eight 0x13 7)
    ∷ (0x08 ∷ 0x00 ∷ 0x04 ∷ eight 0x11 7)
    ∷ (0x08 ∷ 0x00 ∷ 0x04 ∷ 0x11 ∷ 0x00 ∷ 0x01 ∷ 0x07 ∷ [])
    ∷ (0x08 ∷ 0x00 ∷ 0x0E ∷ eight 0x11 7 ++ (0x11 ∷ 0x00 ∷ 0x00 ∷ []))
    ∷ (0x08 ∷ 0x00 ∷ 0x0C ∷ eight 0x11 7 ++ (0x11 ∷ []))
    ∷ []

pub inner_read : map read_all inner
    ≡ stopping [] MissingField 3
    ∷ stopping [] CutField 3
    ∷ stopping [] UnknownField 3
    ∷ stopping [] FieldOrder 3
    ∷ stopping [] CutField 3
    ∷ stopping [] FieldLength 3
    ∷ stopping [] FieldOrder 14
    ∷ stopping [] CutField 14
    ∷ []
unfolding number known field finish number_field fields_of contents read_outer read_from too_long
inner_read = refl

-- ---- a page without and with a limit; a role of 2, at 74
abbrev added : (role : ℕ) → Bytes
added role = 0x01 ∷ 0x00 ∷ 0x3D ∷ eight 0x11 7 ++ (0x12 ∷ 0x00 ∷ 0x20 ∷ replicate 32 1) ++ eight 0x13 1 ++ (0x15 ∷ 0x00 ∷ 0x01 ∷ role ∷ [])

abbrev later : List Bytes
later =
    (open_7 ++ (0x07 ∷ 0x00 ∷ 0x0B ∷ eight 0x19 5))
    ∷ (open_7 ++ (0x07 ∷ 0x00 ∷ 0x16 ∷ eight 0x19 5 ++ eight 0x1A 3))
    ∷ (open_7 ++ added 2)
    ∷ []

pub later_read : map read_all later
    ≡ record { commands = open_by 7 ∷ page_from 5 50 ∷ []; stop = none }
    ∷ record { commands = open_by 7 ∷ page_from 5 3 ∷ []; stop = none }
    ∷ stopping (open_by 7 ∷ []) BadRole 74
    ∷ []
unfolding number known field finish number_field role_field fields_of contents read_outer read_from too_long
later_read = refl
