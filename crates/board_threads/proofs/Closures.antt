-- A closure may be sent, where all that it captures may.
use mathlib.Core.List.{List, [], ◌∷◌}
use Prim.Native.Nat.{ℕ}
use mir.Syntax.{Ty, Sym}
use denote.Exit.{Kept}
use denote.RattleType.{RattleType}
use denote.Param.{param, arg}
use denote.Param.Send.{IsSend, IsSync, AllSend, param_send, arg_send, sendable}
use denote.Param.SendFields.{FieldsHave, declared_send, as_row_send}
use denote.Struct.Field.{row_field, u8-field}
use denote.Struct.Tuple.{TupleAt, type_at, parts}

fields_send : (Ts : List RattleType) → AllSend Ts → FieldsHave IsSend (parts Ts)
fields_send [] s = tt
fields_send (T ∷ Ts) s = (as_row_send (row_field T) s.0, fields_send Ts s.1)

-- as it is handed to a function for its type parameter of this number; Ts are its captures, in the order in which it names them first
pub closure_send : (number : ℕ) (δ : Ty) (k : Kept) (ν : Sym) (Ts : List RattleType) → AllSend Ts → IsSend (param number (arg δ k (TupleAt ν Ts)))
closure_send number δ k ν Ts s = param_send number (arg δ k (TupleAt ν Ts)) (arg_send δ k (TupleAt ν Ts) (declared_send (type_at ν Ts) (fields_send Ts s)))

pub octet_sync : IsSync u8-field.row
octet_sync = search sendable
