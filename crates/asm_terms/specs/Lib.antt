-- What contracts cite: views of a state, quantifiers, and the results of several terms.
pub mod Evaluation
pub mod Lives
pub mod Overlays
pub mod Quantifiers
pub mod Starts
pub mod Views
