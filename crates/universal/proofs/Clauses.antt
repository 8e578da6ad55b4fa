-- Facts of two parts, as the clauses of a contract have them by name. Assumes nothing.

-- An answer, and the buffer after it.
pub result_and_out : {A B : Type 0} → A × B → record { result_value : A; out_after : B }
result_and_out h = record { result_value = h.0; out_after = h.1 }

-- A value, and the buffer after it.
pub value_and_out : {A B : Type 0} → A × B → record { value : A; out_after : B }
value_and_out h = record { value = h.0; out_after = h.1 }
