-- A registration as its row in the book tells it: the source's record, cell by cell. Assumes nothing.
use Rattle.std.specs.Prelude.{ℕ, get_or, List}
use Rattle.machine.specs.Told.{account, id_of_registration, id_of_request}
use Rattle.records.specs.Roles.{role_of}
use Rattle.records.specs.declared.Principal.{Principal}

abbrev pub principal_of_row : List ℕ → Principal
principal_of_row row = record {
  account_id = account (get_or row 0 0);
  role = role_of (get_or row 1 0);
  registration_id = id_of_registration (get_or row 2 0);
  active_from = id_of_request (get_or row 3 0);
  pending = get_or row 4 0;
}
