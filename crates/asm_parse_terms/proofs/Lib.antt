mod HeightSteps
mod Opened
