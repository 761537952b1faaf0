-- What the proofs of write share.
pub mod RowLaws
pub mod WorkLaws
